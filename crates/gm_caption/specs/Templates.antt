-- Templates: texts in which words in braces are fields.
use Rattle.std.specs.Prelude.{ℕ, ◌-◌, ◌==◌, ◌||◌, not, Bool, true, List, [], ◌∷◌, ◌++◌, length, zero, suc, codes, Option, Some, None, if◌then◌else◌}
use Rattle.std.specs.List.{list_all, starts_with}
use Rattle.gm_caption.specs.declared.template.Field.{Field}
use Rattle.gm_caption.specs.declared.template.Field.TheVariants.{Side, Value, Moves, Plies, Number, Game}
use Rattle.gm_caption.specs.declared.template.Part.{Part}
use Rattle.gm_caption.specs.declared.template.Part.TheVariants as part

-- how a field is written
abbrev pub field_word : Field → List ℕ
field_word Side = codes "{side}"
field_word Value = codes "{value}"
field_word Moves = codes "{moves}"
field_word Plies = codes "{plies}"
field_word Number = codes "{number}"
field_word Game = codes "{game}"

-- a text begins with this field
abbrev pub has_first : List ℕ → Field → Bool
has_first text f = starts_with (λ a b. a == b) text (field_word f)

-- the field with which a text begins
abbrev pub field_at : List ℕ → Option Field
field_at text =
    if has_first text Side then Some Side
    else (if has_first text Value then Some Value
    else (if has_first text Moves then Some Moves
    else (if has_first text Plies then Some Plies
    else (if has_first text Number then Some Number
    else (if has_first text Game then Some Game
    else None)))))

-- the part with which a text begins that has this first byte: a field, or the byte
abbrev pub first_part : ℕ → List ℕ → Part
first_part b text = elim (field_at text) [ None ↦ part.Byte b | Some f ↦ part.Field f ]

-- how many bytes a part has after its first
abbrev pub further : Part → ℕ
further (part.Byte b) = 0
further (part.Field f) = length (field_word f) - 1

-- the parts of a text, of which so many bytes are still of an earlier part
unfoldable pub parts_from : ℕ → List ℕ → List Part
parts_from skip [] = []
parts_from zero (b ∷ bs) = first_part b (b ∷ bs) ∷ parts_from (further (first_part b (b ∷ bs))) bs
parts_from (suc skip) (b ∷ bs) = parts_from skip bs

abbrev pub parts_of : List ℕ → List Part
parts_of text = parts_from 0 text

-- a template may have this part: a field, or a byte that is no brace
abbrev pub is_allowed : Part → Bool
is_allowed (part.Byte b) = not (b == 123 || b == 125)
is_allowed (part.Field f) = true

-- each brace of a text belongs to a field
abbrev pub is_template : List ℕ → Bool
is_template text = list_all is_allowed (parts_of text)

-- the list of a part, if it is one
abbrev pub listed : Option Part → List Part
listed None = []
listed (Some p) = p ∷ []
