-- Found positions as rows of text.
use Rattle.std.specs.Prelude.{◌≡◌, ℕ, Bool, List, [], ◌++◌, Option, None, Some, codes}
use Rattle.std.specs.List.{flat_map}
use Rattle.gm_game.specs.declared.position.Position.{Position}
use Rattle.gm_game.specs.Rules.{Rules}
use Rattle.std.specs.Fmt.{decimal}
use Rattle.gm_game.specs.Texts.{text_of}
use Rattle.gm_find.specs.declared.found.Found.{Found}
use Rattle.gm_find.specs.declared.sought.Sought.{Sought}
use Rattle.gm_find.specs.declared.sought.Choice.{Choice}
use Rattle.gm_find.specs.declared.tries.Tries.{Tries}
use Rattle.gm_find.specs.Founds.{AreChosen}

-- four fields, and the end of a line
abbrev pub row_of_four : List ℕ → List ℕ → List ℕ → List ℕ → List ℕ → List ℕ
row_of_four a b c d end = (a ++ codes "\t") ++ (b ++ codes "\t") ++ (c ++ codes "\t") ++ (d ++ end)

-- the end of a line: the tries of the position, where they are counted
abbrev pub row_end : Option Tries → List ℕ
row_end None = codes "\n"
row_end (Some x) = (codes "\t" ++ decimal x.own) ++ (codes "\t" ++ decimal x.least) ++ (codes "\t" ++ decimal x.total) ++ codes "\n"

-- the text of a best move, and none if the game has ended
abbrev pub best_text : (Position → ℕ → List ℕ) → Position → Option ℕ → List ℕ
best_text move_shown p None = []
best_text move_shown p (Some m) = move_shown p m

-- a found position: its text, its value, its best move, the number of its moves, and its tries, where they are counted: its own, the least and the sum
abbrev pub found_row : (Position → List ℕ) → (Position → ℕ → List ℕ) → Found → List ℕ
found_row shown move_shown x = row_of_four (shown x.position) (text_of x.value) (best_text move_shown x.position x.best) (decimal x.moves)
    (row_end x.tries)

-- the rows of those of the positions that are sought that a choice takes
abbrev pub IsFoundText : Rules → (Position → List ℕ) → (Position → ℕ → List ℕ) → Sought → Bool → Choice → List ℕ → List ℕ → Type 0
IsFoundText r shown move_shown q reached choice tiers out =
    (xs : List Found) × AreChosen r q reached choice tiers xs × (out ≡ flat_map (found_row shown move_shown) xs)
