-- The texts of JSON, part by part.
use Rattle.std.specs.Prelude.{ℕ, Bool, ◌==◌, List, [], ◌∷◌, ◌++◌, not, ◌&&◌, nat_le, nat_lt}
use Rattle.json.specs.Print.{quoted}
use Rattle.serde_json.specs.Data.{Data}
use Rattle.serde_json.specs.Written.{comma_if, compact_text}

-- a byte that stands for itself in a string: visible ASCII or a space, but no quote and no backslash
abbrev pub is_clear : ℕ → Bool
is_clear b = nat_le 32 b && nat_lt b 127 && not (b == 34) && not (b == 92)

-- the key of a member, with a comma before it unless it is the first
abbrev pub key_text : Bool → List ℕ → List ℕ
key_text later key = comma_if later ++ (quoted key ++ 58 ∷ [])

-- a member, with a comma before it unless it is the first
abbrev pub member_text : Bool → List ℕ → Data → List ℕ
member_text later key d = comma_if later ++ (quoted key ++ 58 ∷ compact_text d)

-- an item, with a comma before it unless it is the first
abbrev pub item_text : Bool → Data → List ℕ
item_text later d = comma_if later ++ compact_text d
