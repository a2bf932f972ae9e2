-- Lines of best play, as JSON trees.
use Rattle.std.specs.Prelude.{◌≡◌, ℕ, List, [], ◌∷◌, ◌++◌, codes}
use Rattle.serde_json.specs.Data.{Data, null, string, object, member, no_members}
use Rattle.gm_game.specs.declared.position.Position.{Position}
use Rattle.gm_game.specs.declared.position.Solved.{Solved}
use Rattle.gm_game.specs.Rules.{Rules}
use Rattle.gm_game.specs.Values.{IsTrueValue}
use Rattle.gm_play.specs.declared.best_line.BestLine.{BestLine}
use Rattle.gm_play.specs.BestLines.{IsBestLine, IsWhole}
use Rattle.gm_play.specs.PlayTexts.{value_word, IsReadAs, after_best}
use Rattle.gm_play.specs.declared.best_line.LineEnd.{LineEnd}
use Rattle.gm_play.specs.declared.best_line.LineEnd.TheVariants.{Over, Again, Cut}
use Rattle.gm_json.specs.Words.{whole, text, line_of}

-- the tree with the place where the last position has come before
abbrev pub again_tree : ℕ → Data
again_tree k = object (member (codes "again") (whole k) no_members)

abbrev pub end_line : LineEnd → List ℕ
end_line Over = []
end_line (Again k) = line_of (again_tree k)
end_line Cut = []

-- a position with the move that leads to it, and its value; the members in alphabetical order
abbrev pub step_tree : (Position → List ℕ) → Data → Position → Solved → Data
step_tree shown m p s =
    object (member (codes "move") m
    (member (codes "position") (text (shown p))
    (member (codes "remoteness") (whole s.remoteness)
    (member (codes "value") (string (value_word s.value)) no_members))))

module _ (r : Rules) (shown : Position → List ℕ) (move_shown : Position → ℕ → List ℕ) where
  -- the lines of a line of play: each move with its result and the true value of the result
  abbrev pub AreSteps : Position → List ℕ → List ℕ → Type 0
  AreSteps p [] out = out ≡ []
  AreSteps p (m ∷ ms) out = (s : Solved) × (rest : List ℕ) × IsTrueValue r (r.play p m) s × AreSteps (r.play p m) ms rest
      × (out ≡ line_of (step_tree shown (text (move_shown p m)) (r.play p m) s) ++ rest)

  -- the lines of best moves from a position of this value
  abbrev pub steps_from : Position → Solved → List ℕ → List ℕ
  steps_from p s [] = []
  steps_from p s (m ∷ ms) = line_of (step_tree shown (text (move_shown p m)) (r.play p m) (after_best s)) ++ steps_from (r.play p m) (after_best s) ms

  -- the line of best play from the position with this text: first that position, to which no move leads
  pub record IsLineJson (asked : List ℕ) (limit : ℕ) (out : List ℕ) : Type 0 where
    pub start : Position
    pub read : IsReadAs r shown move_shown asked start
    pub value : Solved
    pub is_true : IsTrueValue r start value
    pub line : BestLine
    pub is_best : IsBestLine r start limit line
    pub whole : IsWhole r start limit line
    pub steps : List ℕ
    pub are_steps : AreSteps start line.moves.items steps
    pub out_is : out ≡ line_of (step_tree shown null start value) ++ steps ++ end_line line.end
