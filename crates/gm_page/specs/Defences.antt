-- The other longest defences of a won position, each with the best answer to it.
use Rattle.std.specs.Prelude.{◌≡◌, ◌+◌, ◌==◌, ◌&&◌, ℕ, Bool, true, false, List, [], ◌∷◌, ◌++◌, drop, codes, Option, None, Some}
use Rattle.gm_game.specs.declared.position.Position.{Position}
use Rattle.gm_game.specs.declared.position.Solved.{Solved}
use Rattle.gm_game.specs.declared.position.Value.{Value}
use Rattle.gm_game.specs.declared.position.Value.TheVariants.{Win}
use Rattle.gm_game.specs.Rules.{Rules}
use Rattle.gm_draw.specs.Diagrams.{escaped}
use Rattle.gm_find.specs.declared.found.Found.{Found}
use Rattle.gm_play.specs.declared.move_values.MoveValue.{MoveValue}
use Rattle.gm_play.specs.BestMoves.{IsBestMove}
use Rattle.gm_play.specs.PlayTexts.{AreMovesOf}

abbrev pub is_win : Value → Bool
is_win Win = true
is_win _ = false

-- a defence with this result lasts as long as any: the win is two moves nearer than before the winning move
abbrev pub lasts : ℕ → Solved → Bool
lasts n s = is_win s.value && (s.remoteness + 2 == n)

-- the answer to a defence; none if the game has ended
abbrev pub answer_words : (Position → ℕ → List ℕ) → Position → Option ℕ → List ℕ
answer_words move_shown q None = []
answer_words move_shown q (Some m) = codes " 2. " ++ escaped (move_shown q m)

module _ (r : Rules) (move_shown : Position → ℕ → List ℕ) where
  -- a defence, and the best answer to it
  unfoldable pub defence_words : Position → ℕ → Option ℕ → List ℕ
  defence_words p d answer = codes " Also 1... " ++ escaped (move_shown p d) ++ answer_words move_shown (r.play p d) answer ++ codes "."

  -- the text of a defence that lasts as long as any, or nothing
  abbrev pub IsDefenceIf : Bool → Position → MoveValue → List ℕ → Type 0
  IsDefenceIf true p d t = (answer : Option ℕ) × IsBestMove r (r.play p d.number) answer × (t ≡ defence_words p d.number answer)
  IsDefenceIf false p d t = t ≡ []

  abbrev pub IsDefence : Position → ℕ → MoveValue → List ℕ → Type 0
  IsDefence p n d t = IsDefenceIf (lasts n d.result) p d t

  -- the texts of those of these moves that last as long as any
  abbrev pub AreDefences : Position → ℕ → List MoveValue → List ℕ → Type 0
  AreDefences p n [] out = out ≡ []
  AreDefences p n (d ∷ ds) out = (first : List ℕ) × (rest : List ℕ) × IsDefence p n d first × AreDefences p n ds rest × (out ≡ first ++ rest)

  -- those of the distinct moves after the best one but the first of them, which is that of the line of best play; nothing if the position is not won
  abbrev pub AreOthersOf : Value → Found → ℕ → List ℕ → Type 0
  AreOthersOf Win x m out = (moves : List MoveValue) × AreMovesOf r true (r.play x.position m) moves
      × AreDefences (r.play x.position m) x.value.remoteness (drop 1 moves) out
  AreOthersOf _ x m out = out ≡ []

  abbrev pub AreOthers : Found → ℕ → List ℕ → Type 0
  AreOthers x m out = AreOthersOf x.value.value x m out
