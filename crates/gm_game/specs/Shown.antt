-- The laws of the texts of positions and moves.
use Rattle.std.specs.Prelude.{◌≡◌, ℕ, ◌≤◌, Bool, true, ◌&&◌, nat_le, List, length}
use Rattle.std.specs.List.{Contains, list_all}
use Rattle.gm_game.specs.declared.position.Position.{Position}
use Rattle.gm_game.specs.declared.limits.TheConstants.{LINE}
use Rattle.gm_game.specs.Rules.{Rules}

-- a visible ASCII character or a space: no line end, and no other control character
abbrev pub is_plain : ℕ → Bool
is_plain c = nat_le 32 c && nat_le c 126

-- a text of visible ASCII characters and spaces only
abbrev pub IsPlain : List ℕ → Type 0
IsPlain text = list_all is_plain text ≡ true

-- texts are plain and fit a line; different legal positions have different texts, and so have different moves of a legal position
pub record IsShown (r : Rules) (shown : Position → List ℕ) (move_shown : Position → ℕ → List ℕ) : Type 0 where
  pub shown_plain : (p : Position) → r.is_legal p ≡ true → IsPlain (shown p)
  pub shown_fits : (p : Position) → r.is_legal p ≡ true → length (shown p) ≤ LINE
  pub shown_once : (p q : Position) → r.is_legal p ≡ true → r.is_legal q ≡ true → shown p ≡ shown q → p ≡ q
  pub move_shown_plain : (p : Position) (m : ℕ) → r.is_legal p ≡ true → Contains (r.moves p) m → IsPlain (move_shown p m)
  pub move_shown_fits : (p : Position) (m : ℕ) → r.is_legal p ≡ true → Contains (r.moves p) m → length (move_shown p m) ≤ LINE
  pub move_shown_once : (p : Position) (m n : ℕ) → r.is_legal p ≡ true → Contains (r.moves p) m → Contains (r.moves p) n
      → move_shown p m ≡ move_shown p n → m ≡ n
