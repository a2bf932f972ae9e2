-- The solutions of a sheet: the best move of a position, and best play from it.
use Rattle.std.specs.Prelude.{◌≡◌, ◌==◌, ℕ, List, [], ◌∷◌, ◌++◌, codes, if◌then◌else◌, Option, None, Some}
use Rattle.gm_game.specs.declared.position.Position.{Position}
use Rattle.gm_game.specs.Rules.{Rules}
use Rattle.gm_play.specs.declared.best_line.BestLine.{BestLine}
use Rattle.gm_play.specs.BestLines.{IsBestLine}
use Rattle.gm_draw.specs.Diagrams.{escaped}
use Rattle.std.specs.Fmt.{decimal}
use Rattle.gm_play.specs.declared.best_line.LineEnd.{LineEnd}
use Rattle.gm_find.specs.declared.found.Found.{Found}
use Rattle.gm_play.specs.declared.best_line.LineEnd.TheVariants.{Over, Again, Cut}
use Rattle.gm_page.specs.Defences.{AreOthers}
use Rattle.gm_page.specs.declared.solution.TheConstants.{SOLUTION_MOVES}

-- the number of moves that the best one is chosen from
unfoldable pub choice_words : ℕ → List ℕ
choice_words n = if n == 1 then codes ", the only move" else codes ", one of " ++ decimal n ++ codes " moves"

-- how the line of best play ends
abbrev pub end_words : LineEnd → List ℕ
end_words Over = codes "."
end_words (Again k) = codes " and so on."
end_words Cut = codes " ..."

module _ (r : Rules) (move_shown : Position → ℕ → List ℕ) where
  -- moves one after the other
  abbrev pub steps_text : Position → List ℕ → List ℕ
  steps_text p [] = []
  steps_text p (m ∷ ms) = codes " " ++ escaped (move_shown p m) ++ steps_text (r.play p m) ms

  -- the best move, and the number of moves
  unfoldable pub best_words : Position → ℕ → ℕ → List ℕ
  best_words p m n = codes "<b>" ++ escaped (move_shown p m) ++ codes "</b>" ++ choice_words n

  -- the line of best play
  unfoldable pub line_words : Position → BestLine → List ℕ
  line_words p line = codes ". Best play:" ++ steps_text p line.moves.items ++ end_words line.end

  -- the best move, best play, and the other longest defences; a word where the game has ended
  abbrev pub IsSolutionText : Position → Option ℕ → Found → BestLine → List ℕ → Type 0
  IsSolutionText p None x line out = out ≡ codes "The game has ended."
  IsSolutionText p (Some m) x line out = (others : List ℕ) × AreOthers r move_shown x m others × (out ≡ (best_words p m x.moves ++ line_words p line) ++ others)

  -- the solution of a found position, by the line of best play from it
  abbrev pub IsSolution : Found → List ℕ → Type 0
  IsSolution x out = (line : BestLine) × IsBestLine r x.position SOLUTION_MOVES line × IsSolutionText x.position x.best x line out
