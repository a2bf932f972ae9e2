-- Masks that are made of masks: the cells of both and of either, a cell more, a cell less, and patterns of cells below n.
use Rattle.std.specs.Prelude.{bit_and, bit_or}
use Rattle.std.specs.Int.{bit_at, bit_not}
use Rattle.std.specs.List.{Contains, list_all, list_any}
use Rattle.std.proofs.Math.Pow.{pow-lt}
use Rattle.std.proofs.lemmas.Bool.{cases_eq}
use Rattle.std.proofs.lemmas.Bool.Decides.{nat_tests}
use Rattle.std.proofs.lemmas.Nat.{or_lt, and_le_l, one_shl}
use Rattle.std.proofs.lemmas.Nat.Bits.{bit_at-lt, bit_at-zero, bit_at_and, bit_at_or, bit_at_not, bit_at_set_other, same_from_bits}
use Rattle.gm_board.specs.Masks.{has_cell}
use Rattle.std.proofs.Common.{◌≡◌, ℕ, ◌-◌, ◌*◌, ◌%◌, ◌^◌, ◌<◌, ◌≤◌, min, max, w32, Bool, true, false, not, ◌&&◌, ◌||◌, eqb, ltb, ltb-true, List, [], ◌∷◌, refl, sym, ap, ap₂, ◌∙◌, subst, arith, inl, inr}
use Rattle.gm_board.specs.laws.Lists.{contains_head, contains_later}
use Rattle.gm_board.specs.laws.Permutations.{all_at}

-- ---- the cells of two masks
or_bits : (x y : ℕ) → x < 2 → y < 2 → eqb (max x y) 1 ≡ (eqb x 1 || eqb y 1)
or_bits x y l m = grind (arith, nat_tests)

and_bits : (x y : ℕ) → x < 2 → y < 2 → eqb (min x y) 1 ≡ (eqb x 1 && eqb y 1)
and_bits x y l m = grind (arith, nat_tests)

not_bit : (x : ℕ) → x < 2 → eqb (1 - x) 1 ≡ not (eqb x 1)
not_bit x l = grind (arith, nat_tests)

-- the bit of a cell that the mask does not have is 0
pub no_bit : (x : ℕ) → x < 2 → eqb x 1 ≡ false → x ≡ 0
no_bit x l e = grind (arith, nat_tests)

-- the cells of either of two masks
pub has_or : (a b k : ℕ) → has_cell (bit_or a b) k ≡ (has_cell a k || has_cell b k)
has_or a b k = ap (λ (v : ℕ). eqb v 1) (bit_at_or a b k) ∙ or_bits (bit_at a k) (bit_at b k) (bit_at-lt a k) (bit_at-lt b k)

-- the cells of both of two masks
pub has_and : (a b k : ℕ) → has_cell (bit_and a b) k ≡ (has_cell a k && has_cell b k)
has_and a b k = ap (λ (v : ℕ). eqb v 1) (bit_at_and a b k) ∙ and_bits (bit_at a k) (bit_at b k) (bit_at-lt a k) (bit_at-lt b k)

-- the cells that a mask of 32 cells does not have
pub has_not : (a k : ℕ) → a < 2 ^ 32 → k < 32 → has_cell (bit_not w32 a) k ≡ not (has_cell a k)
has_not a k l h = ap (λ (v : ℕ). eqb v 1) (bit_at_not w32 a k l h) ∙ not_bit (bit_at a k) (bit_at-lt a k)

-- a mask without cells is 0
pub has_none : (m : ℕ) → ((k : ℕ) → has_cell m k ≡ false) → m ≡ 0
has_none m h = same_from_bits m 0 (λ i. no_bit (bit_at m i) (bit_at-lt m i) (h i) ∙ sym (bit_at-zero i))

-- ---- a cell more and a cell less
module _ (a k : ℕ) where
  -- a mask of n cells with one more of them is a mask of n cells
  pub with_within : (n : ℕ) → a < 2 ^ n → n ≤ 32 → k < n → bit_or a (1 * 2 ^ k % 2 ^ 32) < 2 ^ n
  with_within n l s h = or_lt n a (1 * 2 ^ k % 2 ^ 32) l (subst (λ (v : ℕ). v < 2 ^ n) (sym (one_shl k 32 (omega (arith, s, h)))) (pow-lt h))

  -- a mask with one more cell has no cell in common with another mask, if it had none before and the cell is not in the other
  pub with_apart : (b : ℕ) → k < 32 → bit_and a b ≡ 0 → has_cell b k ≡ false → bit_and (bit_or a (1 * 2 ^ k % 2 ^ 32)) b ≡ 0
  with_apart b l e f =
      let d = bit_or a (1 * 2 ^ k % 2 ^ 32) in
      same_from_bits (bit_and d b) 0
      (λ i. bit_at_and d b i ∙ (elim (cases_eq i k) [
        | inl q ↦ (let z = ap (bit_at b) q ∙ no_bit (bit_at b k) (bit_at-lt b k) f in omega (arith, z))
        | inr q ↦ ap (λ (x : ℕ). min x (bit_at b i)) (bit_at_set_other w32 a k l i q) ∙ sym (bit_at_and a b i) ∙ ap (λ (v : ℕ). bit_at v i) e ∙ bit_at-zero i
      ]) ∙ sym (bit_at-zero i))

-- a mask with fewer cells fits as many cells
pub without_within : (n a c : ℕ) → a < 2 ^ n → bit_and a c < 2 ^ n
without_within n a c l = let m = and_le_l a c in omega (arith, m, l)

-- a mask with fewer cells still has no cell in common with another mask
pub without_apart : (a b c : ℕ) → bit_and a b ≡ 0 → bit_and (bit_and a c) b ≡ 0
without_apart a b c e =
    same_from_bits (bit_and (bit_and a c) b) 0
    (λ i. let x = bit_at_and (bit_and a c) b i in
    let y = bit_at_and a c i in
    let z = bit_at_and a b i in
    let w : bit_at (bit_and a b) i ≡ 0 = ap (λ (v : ℕ). bit_at v i) e ∙ bit_at-zero i in
    let s : bit_at (bit_and (bit_and a c) b) i ≡ 0 = omega (arith, x, y, z, w) in
    s ∙ sym (bit_at-zero i))

-- ---- tests that agree
-- tests that agree on the elements of a list
pub same_all : {X : Type 0} (p q : X → Bool) (xs : List X) → ((x : X) → Contains xs x → p x ≡ q x) → list_all p xs ≡ list_all q xs
same_all p q [] h = refl
same_all p q (x ∷ xs) h = ap₂ (λ (a b : Bool). a && b) (h x (contains_head x xs)) (same_all p q xs (λ y c. h y (contains_later x xs y c)))

-- tests that agree on all cells, and so on each pattern
pub same_any : (p q : ℕ → Bool) (ls : List (List ℕ)) → ((k : ℕ) → p k ≡ q k) → list_any (λ l. list_all p l) ls ≡ list_any (λ l. list_all q l) ls
same_any p q [] h = refl
same_any p q (l ∷ ls) h = ap₂ (λ (a b : Bool). a || b) (same_all p q l (λ k c. h k)) (same_any p q ls h)

-- tests that agree on the cells below n
pub same_within : (n : ℕ) (p q : ℕ → Bool) (cs : List ℕ) → list_all (λ k. ltb k n) cs ≡ true → ((k : ℕ) → k < n → p k ≡ q k) → list_all p cs ≡ list_all q cs
same_within n p q cs w h = same_all p q cs (λ k c. h k (ltb-true k n (all_at (λ (j : ℕ). ltb j n) cs k w c)))
