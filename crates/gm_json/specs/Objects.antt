-- Lines that are objects of JSON: the lines of text that an object stands for, and the id of its answers.
use Rattle.std.specs.Prelude.{◌≡◌, ◌==◌, ◌++◌, ◌∷◌, ◌≤◌, ℕ, Bool, true, false, not, List, [], drop, length, codes, Option, Some, None, option_map, option_and_then, if◌then◌else◌}
use Rattle.std.specs.Str.{IsUtf8}
use Rattle.serde_json.specs.Data.{Data, null, boolean, number, string, array, object, Items, no_items, item}
use Rattle.serde_json.specs.Find.{get, as_number, as_str, as_array, as_u64, is_float}
use Rattle.serde_json.specs.Read.{read as read_text}
use Rattle.serde_json.specs.Written.{compact_text}
use Rattle.gm_json.specs.Places.{place_line}

-- a text begins with a brace (123)
abbrev pub is_braced : List ℕ → Bool
is_braced [] = false
is_braced (b ∷ bs) = b == 123

-- how many bytes an object has at most
abbrev pub object_bytes : ℕ
object_bytes = 65536

-- the line is this object
pub record IsObject (line : List ℕ) (d : Data) : Type 0 where
  pub braced : is_braced line ≡ true
  pub short : length line ≤ object_bytes
  pub utf8 : IsUtf8 line
  pub reads : read_text line ≡ Some d

abbrev pub IsNoObject : List ℕ → Type 0
IsNoObject line = (d : Data) → IsObject line d → ⊥

-- a whole number from 0 to 2^64 - 1
abbrev pub number_in : Data → Option ℕ
number_in d = option_and_then as_u64 (as_number d)

-- the lines of the places in a tier whose indexes an array has; none if an item is no index
abbrev pub lines_of_items : ℕ → Items → Option (List (List ℕ))
lines_of_items tier no_items = Some []
lines_of_items tier (item d ds) = option_and_then (λ i. option_map (λ ls. place_line tier i ∷ ls) (lines_of_items tier ds)) (number_in d)

-- the lines of `indexes`, or else that of `index`
abbrev pub lines_of_places : Data → ℕ → Option (List (List ℕ))
lines_of_places d tier = elim (get (codes "indexes") d) [
  | Some list ↦ option_and_then (lines_of_items tier) (as_array list)
  | None ↦ option_map (λ i. place_line tier i ∷ []) (option_and_then number_in (get (codes "index") d))
]

-- `position`, or else the places in `tier`
abbrev pub lines_named : Data → Option (List (List ℕ))
lines_named d = elim (get (codes "position") d) [
  | Some text ↦ option_map (λ t. t ∷ []) (as_str text)
  | None ↦ option_and_then (lines_of_places d) (option_and_then number_in (get (codes "tier") d))
]

-- an id is a text or a whole number
abbrev pub is_id : Data → Bool
is_id null = false
is_id (boolean b) = false
is_id (number n) = not (is_float n)
is_id (string s) = true
is_id (array ds) = false
is_id (object ms) = false

-- the object has no `id`, or one
abbrev pub is_named : Data → Bool
is_named d = elim (get (codes "id") d) [ None ↦ true | Some id ↦ is_id id ]

-- the id of the answers to an object
abbrev pub id_in : Data → Option Data
id_in d = if is_named d then get (codes "id") d else None

-- the lines that an object stands for
abbrev pub lines_in : Data → Option (List (List ℕ))
lines_in d = if is_named d then lines_named d else None

-- an answer with the id as its first member
abbrev pub with_id : Option Data → List ℕ → List ℕ
with_id None answer = answer
with_id (Some id) answer = codes "{\"id\":" ++ (compact_text id ++ (codes "," ++ drop 1 answer))
