-- Found positions, as JSON trees.
use Rattle.std.specs.Prelude.{◌≡◌, ℕ, Bool, List, codes, Option, None, Some}
use Rattle.std.specs.List.{flat_map}
use Rattle.serde_json.specs.Data.{Data, string, object, Members, member, no_members, put as with_member}
use Rattle.gm_game.specs.declared.position.Position.{Position}
use Rattle.gm_game.specs.Rules.{Rules}
use Rattle.gm_play.specs.PlayTexts.{value_word}
use Rattle.gm_find.specs.declared.found.Found.{Found}
use Rattle.gm_find.specs.declared.tries.Tries.{Tries}
use Rattle.gm_find.specs.declared.sought.Sought.{Sought}
use Rattle.gm_find.specs.Founds.{AreChosen}
use Rattle.gm_find.specs.declared.sought.Choice.{Choice}
use Rattle.gm_json.specs.Words.{whole, text, move_or_null, line_of}

-- the members of an object, and the tries of a position, where they are counted
abbrev pub with_tries : Option Tries → Members → Members
with_tries None ms = ms
with_tries (Some x) ms = with_member (codes "tries") (whole x.own) (with_member (codes "sum") (whole x.total) (with_member (codes "least") (whole x.least) ms))

-- a found position: its best move, the number of its moves, its text and its value, and its tries, where they are counted; the members in alphabetical order
abbrev pub found_tree : (Position → List ℕ) → (Position → ℕ → List ℕ) → Found → Data
found_tree shown move_shown x =
    object (with_tries x.tries (member (codes "bestMove") (move_or_null move_shown x.position x.best)
    (member (codes "moves") (whole x.moves)
    (member (codes "position") (text (shown x.position))
    (member (codes "remoteness") (whole x.value.remoteness)
    (member (codes "value") (string (value_word x.value.value)) no_members))))))

abbrev pub found_line : (Position → List ℕ) → (Position → ℕ → List ℕ) → Found → List ℕ
found_line shown move_shown x = line_of (found_tree shown move_shown x)

-- the lines of those of the positions that are sought that a choice takes
abbrev pub IsFoundJson : Rules → (Position → List ℕ) → (Position → ℕ → List ℕ) → Sought → Bool → Choice → List ℕ → List ℕ → Type 0
IsFoundJson r shown move_shown q reached choice tiers out =
    (xs : List Found) × AreChosen r q reached choice tiers xs × (out ≡ flat_map (found_line shown move_shown) xs)
