-- The engine's text in a page: digits of base64.
use Rattle.std.specs.Prelude.{◌≡◌, ◌<◌, ◌==◌, ◌&&◌, ◌++◌, ℕ, nat_le, true, Bool, List, codes, length, ◌⊎◌, ◌||◌}
use Rattle.std.specs.List.{list_all}

-- tests whether a byte is from one to another
abbrev pub is_within : ℕ → ℕ → ℕ → Bool
is_within first last byte = nat_le first byte && nat_le byte last

-- tests whether a byte is a digit of base64, `+` and `/` among them, or `=`, which fills up
abbrev pub is_digit : ℕ → Bool
is_digit byte = is_within 65 90 byte || (is_within 97 122 byte || (is_within 47 57 byte || (byte == 43 || byte == 61)))

-- digits, at least one
abbrev pub AreDigits : List ℕ → Type 0
AreDigits digits = (0 < length digits) × (list_all is_digit digits ≡ true)

-- the text is that of an engine with these digits: there may be one line end after them
abbrev pub IsEngine : List ℕ → List ℕ → Type 0
IsEngine text digits = AreDigits digits × ((text ≡ digits) ⊎ (text ≡ digits ++ codes "\n"))

-- the text without the line end at its end, if it has one
abbrev pub IsBeforeEnd : List ℕ → List ℕ → Type 0
IsBeforeEnd text front = (text ≡ front ++ codes "\n") ⊎ ((text ≡ front) × ((other : List ℕ) → text ≡ other ++ codes "\n" → ⊥))
