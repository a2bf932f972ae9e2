-- The answer to a line that should ask about a position, or be an object that stands for such lines.
use Rattle.std.specs.Prelude.{◌≡◌, ℕ, ◌⊎◌, Bool, true, false, List, [], ◌∷◌, ◌++◌, take, codes, if◌then◌else◌, Option, None, Some}
use Rattle.std.specs.List.{Contains}
use Rattle.serde_json.specs.Data.{Data, string, object, Members, member, no_members}
use Rattle.serde_json.specs.Written.{compact_text}
use Rattle.gm_game.specs.declared.position.Position.{Position}
use Rattle.gm_game.specs.declared.position.Solved.{Solved}
use Rattle.gm_game.specs.Rules.{Rules}
use Rattle.gm_game.specs.Values.{IsTrueValue}
use Rattle.gm_play.specs.declared.move_values.MoveValue.{MoveValue}
use Rattle.gm_play.specs.Firsts.{chosen}
use Rattle.gm_play.specs.MoveValues.{AreMoveValues, BeginsBest}
use Rattle.gm_play.specs.PlayTexts.{IsReadAs}
use Rattle.gm_play.specs.Dialogue.{without_return}
use Rattle.gm_json.specs.declared.asked.Asked.{Asked}
use Rattle.gm_json.specs.Words.{whole, text}
use Rattle.gm_json.specs.Moves.{move_trees, position_members}
use Rattle.gm_json.specs.Extras.{extras, AreBestMoves}
use Rattle.gm_json.specs.Objects.{IsObject, IsNoObject, id_in, lines_in, with_id}
use Rattle.gm_json.specs.Places.{IsAskedAs, IsAskedAsNone, IsAskedByPlace}

-- how much of a line that asks about no position is reported
abbrev pub read_bytes : ℕ
read_bytes = 64

-- what is reported of a line that can't be answered: why, its number, and what was read
abbrev pub unread_tree : List ℕ → ℕ → List ℕ → Data
unread_tree why n read =
    object (member (codes "error") (string why)
    (member (codes "line") (whole n)
    (member (codes "read") (text read) no_members)))

abbrev pub error_tree : ℕ → List ℕ → Data
error_tree n line = unread_tree (codes "no such position") n (take read_bytes line)

-- the same of an object that asks nothing
abbrev pub no_question_tree : ℕ → List ℕ → Data
no_question_tree n line = unread_tree (codes "no such question") n (take read_bytes line)

-- the value of a position without its moves; on request, also its canonical position
abbrev pub value_asked : Bool → Asked
value_asked canonical = record {
  values = true;
  distinct = false;
  «with» = record { canonical = canonical; parents = false; symmetric = false; best = false };
}

module _ (r : Rules) (shown : Position → List ℕ) (move_shown : Position → ℕ → List ℕ) (asked : Asked) where
  -- what is reported of a position: its moves unless its value alone is asked for, its value and its remoteness, and then more
  abbrev pub answer_members : Position → Solved → List MoveValue → Members → Members
  answer_members p s xs more =
      if asked.values then position_members r shown move_shown p s more else member (codes "moves") (move_trees r shown move_shown p xs)
      (position_members r shown move_shown p s more)

  module _ (tiers : List ℕ) where
    -- what is reported of a position with its true value, these moves of it, and more
    pub record IsReported (p : Position) (xs : List MoveValue) (out : List ℕ) : Type 0 where
      pub value : Solved
      pub is_true : IsTrueValue r p value
      pub best : List ℕ
      pub along : asked.with.best ≡ true → AreBestMoves r p best
      pub out_is : out ≡ compact_text (object (answer_members p value xs (extras r shown move_shown asked.with tiers p best)))

    -- the answer for the position with this text: its true value, its moves, the best first, and more
    pub record IsPositionJson (line out : List ℕ) : Type 0 where
      pub position : Position
      pub read : IsReadAs r shown move_shown line position
      pub value : Solved
      pub is_true : IsTrueValue r position value
      pub list : List MoveValue
      pub moves : asked.values ≡ false → AreMoveValues r position list × BeginsBest r position list
      pub best : List ℕ
      pub along : asked.with.best ≡ true → AreBestMoves r position best
      pub out_is : out ≡ compact_text (object (answer_members position value (chosen r asked.distinct list)
          (extras r shown move_shown asked.with tiers position best)))

    -- the answer to a line that is the text of no position, and names the tier and the index of a legal one
    abbrev pub IsPlaceAnswer : List ℕ → List ℕ → Type 0
    IsPlaceAnswer line out = (p : Position) × IsAskedByPlace r shown move_shown line p × IsPositionJson (shown p) out

    -- the answer to a text in the line with this number: the answer for the position that it asks about, or that there is no such position
    abbrev pub IsTextAnswer : List ℕ → ℕ → List ℕ → Type 0
    IsTextAnswer text n out = IsPositionJson text out
        ⊎ (IsPlaceAnswer text out
        ⊎ (IsAskedAsNone r shown move_shown text × (out ≡ compact_text (error_tree n text))))

    -- the answers to some texts in their order, each with the id and a line's end
    abbrev pub AreTextAnswers : Option Data → ℕ → List (List ℕ) → List ℕ → Type 0
    AreTextAnswers id n [] all = all ≡ []
    AreTextAnswers id n (text ∷ texts) all = (out : List ℕ) × (rest : List ℕ) × IsTextAnswer text n out × (all ≡ (with_id id out ++ codes "\n") ++ rest) ×
        AreTextAnswers id n texts rest

    -- the answers to the texts that an object stands for, a line each; if it stands for none, that it asks nothing
    abbrev pub AreObjectAnswers : Option Data → ℕ → List ℕ → Option (List (List ℕ)) → List ℕ → Type 0
    AreObjectAnswers id n line None out = out ≡ with_id id (compact_text (no_question_tree n line))
    AreObjectAnswers id n line (Some []) out = out ≡ with_id id (compact_text (no_question_tree n line))
    AreObjectAnswers id n line (Some (text ∷ texts)) out = AreTextAnswers id n (text ∷ texts) (out ++ codes "\n")

    -- the line is an object, and this is its answer
    abbrev pub IsObjectAnswer : List ℕ → ℕ → List ℕ → Type 0
    IsObjectAnswer line n out = (d : Data) × IsObject line d × AreObjectAnswers (id_in d) n line (lines_in d) out

    -- the answer to a line that asks about no position itself: that of an object, or that there is no such position
    abbrev pub IsOtherAnswer : List ℕ → ℕ → List ℕ → Type 0
    IsOtherAnswer line n out = IsObjectAnswer line n out ⊎ (IsNoObject line × (out ≡ compact_text (error_tree n line)))

    -- the answer to the line with this number: the answer for the position that it asks about, or that to another line
    abbrev pub IsAnswer : List ℕ → ℕ → List ℕ → Type 0
    IsAnswer line n out = IsPositionJson (without_return line) out
        ⊎ (IsPlaceAnswer (without_return line) out
        ⊎ (IsAskedAsNone r shown move_shown (without_return line) × IsOtherAnswer (without_return line) n out))

module _ (r : Rules) (shown : Position → List ℕ) (move_shown : Position → ℕ → List ℕ) where
  -- the line is an object that stands for a line that asks about p
  abbrev pub IsAskedWithin : List ℕ → Position → Type 0
  IsAskedWithin line p = (d : Data) × (texts : List (List ℕ)) × (text : List ℕ) × IsObject line d × (lines_in d ≡ Some texts) × Contains texts text
      × IsAskedAs r shown move_shown text p
