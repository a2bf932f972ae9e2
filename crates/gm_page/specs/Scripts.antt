-- Texts in an element of a page: no byte of them opens a tag.
use Rattle.std.specs.Prelude.{◌≡◌, ℕ, Some, Bool, ◌==◌, List, [], ◌∷◌, codes, if◌then◌else◌, not}
use Rattle.std.specs.List.{flat_map}
use Rattle.serde_json.specs.Data.{Data}
use Rattle.serde_json.specs.Read.{read}
use Rattle.gm_json.specs.Words.{line_of}

-- whether a byte opens no tag
abbrev pub opens_none : ℕ → Bool
opens_none b = not (b == 60)

-- a byte: `<` is written as its JSON escape
abbrev pub script_byte : ℕ → List ℕ
script_byte b = if b == 60 then codes "\\u003c" else b ∷ []

unfoldable pub script_text : List ℕ → List ℕ
script_text text = flat_map script_byte text

-- a tree as a line of such text
abbrev pub script_line : Data → List ℕ
script_line d = script_text (line_of d)

-- the line of a tree is read, as JSON, as this tree
abbrev pub IsReadBack : Data → Type 0
IsReadBack d = read (script_line d) ≡ Some d
