-- Texts that have a byte for each cell: they tell boards apart. And marks: the mask of the cells at which a text has a byte, read one cell after the other.
use Rattle.std.specs.Prelude.{bit_and, bit_or}
use Rattle.std.proofs.lemmas.Bool.{cases_eq, le-ltb}
use Rattle.std.proofs.lemmas.Bool.Decides.{nat_tests}
use Rattle.std.proofs.lemmas.Nat.Bits.{bit_at-zero, bit_at_set_same, bit_at_set_other}
use Rattle.gm_board.specs.Masks.{has_cell}
use Rattle.std.proofs.Common.{◌≡◌, ◌≢◌, ℕ, ◌+◌, ◌*◌, ◌%◌, ◌^◌, ◌<◌, w32, Bool, true, false, ◌&&◌, eqb, ltb, lt-ltb, List, [], ◌∷◌, map, get_or, refl, sym, ap, ap₂, ◌∙◌, arith, inl, inr, eq-eqb}
use Rattle.gm_board.specs.laws.MaskChanges.{has_and, has_none}

-- ---- boards and their bytes
map_back : {X Y : Type 0} (f : X → Y) (g : Y → X) → ((x : X) → g (f x) ≡ x) → (xs : List X) → map g (map f xs) ≡ xs
map_back f g h [] = refl
map_back f g h (x ∷ xs) = ap₂ (λ (y : _) (ys : List _). y ∷ ys) (h x) (map_back f g h xs)

-- if the byte of a cell determines the cell, the text of a board determines the board
pub map_once : {X Y : Type 0} (f : X → Y) (g : Y → X) → ((x : X) → g (f x) ≡ x) → (xs ys : List X) → map f xs ≡ map f ys → xs ≡ ys
map_once f g h xs ys e = sym (map_back f g h xs) ∙ ap (map g) e ∙ map_back f g h ys

-- ---- marks
-- a mark at each cell below n that has the byte
abbrev pub IsRead : List ℕ → ℕ → ℕ → ℕ → Type 0
IsRead text byte n marks = (k : ℕ) → has_cell marks k ≡ (ltb k n && eqb (get_or text k 0) byte)

-- nothing is read at the start
pub read_start : (text : List ℕ) (byte : ℕ) → IsRead text byte 0 0
read_start text byte k = ap (λ (v : ℕ). eqb v 1) (bit_at-zero k) ∙ sym (ap (λ (x : Bool). x && eqb (get_or text k 0) byte) (le-ltb k 0 (omega arith)))

same_out : (x : Bool) (k n : ℕ) → (k ≡ n → x ≡ false) → (ltb k n && x) ≡ (ltb k (n + 1) && x)
same_out x k n h = grind (arith, nat_tests)

-- one more cell, without the byte
pub read_out : (text : List ℕ) (byte n marks : ℕ) → IsRead text byte n marks → eqb (get_or text n 0) byte ≡ false → IsRead text byte (n + 1) marks
read_out text byte n marks h e k = h k ∙ same_out (eqb (get_or text k 0) byte) k n (λ q. ap (λ (j : ℕ). eqb (get_or text j 0) byte) q ∙ e)

same_in : (x : Bool) (k n : ℕ) → k ≢ n → (ltb k n && x) ≡ (ltb k (n + 1) && x)
same_in x k n q = grind (arith, nat_tests)

-- one more cell, with the byte
pub read_in : (text : List ℕ) (byte n marks : ℕ) → n < 32 → IsRead text byte n marks → eqb (get_or text n 0) byte ≡ true → IsRead text byte (n + 1)
    (bit_or marks (1 * 2 ^ n % 2 ^ 32))
read_in text byte n marks l h e k = elim (cases_eq k n) [
  | inl q ↦ ap (has_cell (bit_or marks (1 * 2 ^ n % 2 ^ 32))) q
      ∙ eq-eqb _ _ (bit_at_set_same w32 marks n l)
      ∙ sym (ap₂ (λ (x y : Bool). x && y) (lt-ltb k (n + 1) (omega arith)) (ap (λ (j : ℕ). eqb (get_or text j 0) byte) q ∙ e))
  | inr q ↦ ap (λ (v : ℕ). eqb v 1) (bit_at_set_other w32 marks n l k q) ∙ h k ∙ same_in (eqb (get_or text k 0) byte) k n q
]

two_bytes : (x y : Bool) (v c d : ℕ) → c ≢ d → ((x && eqb v c) && (y && eqb v d)) ≡ false
two_bytes x y v c d q = grind (arith, nat_tests)

-- no cell has two bytes
pub read_apart : (text : List ℕ) (c d n a b : ℕ) → c ≢ d → IsRead text c n a → IsRead text d n b → bit_and a b ≡ 0
read_apart text c d n a b q h k = has_none (bit_and a b) (λ i. has_and a b i ∙ ap₂ (λ (x y : Bool). x && y) (h i) (k i) ∙ two_bytes (ltb i n) (ltb i n)
    (get_or text i 0) c d q)
