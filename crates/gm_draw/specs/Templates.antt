-- Templates: texts in which each capital letter is a slot for a byte of another text; and the points of their bytes in a diagram.
use Rattle.std.specs.Prelude.{ℕ, ◌-◌, ◌+◌, Bool, ◌&&◌, ◌==◌, nat_le, List, [], ◌∷◌, ◌++◌, map, slice_index, if◌then◌else◌}

-- a slot: a capital letter
abbrev pub is_slot : ℕ → Bool
is_slot b = nat_le 65 b && nat_le b 90

-- the byte in the place of a byte of a template: for the k-th letter, from 0, the byte k of the text
abbrev pub drawn_byte : List ℕ → ℕ → ℕ
drawn_byte text b = if is_slot b then slice_index text (b - 65) else b

-- a template with the bytes of a text in its slots
unfoldable pub filled : List ℕ → List ℕ → List ℕ
filled template text = map (drawn_byte text) template

-- the point of the byte after this one: to its right, or, after a line's end, at the beginning of the next line
abbrev pub next_x : ℕ → ℕ → ℕ
next_x x b = if b == 10 then 40 else x + 20

abbrev pub next_y : ℕ → ℕ → ℕ
next_y y b = if b == 10 then y + 40 else y

-- the drawing of the bytes of a board: the one in row r and column c is at 20c + 40 and 40r + 40
unfoldable pub spread : (ℕ → ℕ → ℕ → List ℕ) → ℕ → ℕ → List ℕ → List ℕ
spread f x y [] = []
spread f x y (b ∷ bs) = f x y b ++ spread f (next_x x b) (next_y y b) bs
