-- A mask with one square more or less.
use Rattle.std.specs.Prelude.{◌≡◌, ◌≢◌, ◌+◌, ◌-◌, ◌^◌, ◌<◌}
use Rattle.gm_pieces.specs.Common.{ℕ, ap, ◌∙◌, arith, w32, bit_at, bit_at-pow_same, bit_at-pow_other, count_ones, refl, sym, ap₂, pow-lt, trailing_zeros, bit_at-zero, Empty, is_mine, board_length}
unfoldable use Rattle.gm_pieces.specs.Common.{board_of, number_of}
use Rattle.std.specs.Int.Count.{ones}
use Rattle.std.proofs.lemmas.Nat.{and_comm, ones_le_self, xor_lt}
use Rattle.std.proofs.lemmas.Nat.Bits.{bit_at-lt, bit_at_xor, bit_at-trailing_zeros, same_from_bits}
use Rattle.gm_board.specs.laws.CellCounts.{one_if, number_set}
use Rattle.gm_board.specs.laws.BoardMasks.{board_change}
use Rattle.gm_board.specs.laws.NextCells.{cell_one, cell_none}
use Rattle.gm_board.specs.Pieces.{cell_by}
use Rattle.gm_pieces.specs.laws.MaskFacts.{own_pieces, own_cells}
use Rattle.gm_squares.specs.FoxHounds.{toggled}

module _ (m k : ℕ) where
  pub toggled_here : bit_at (toggled m k) k ≡ 1 - bit_at m k
  toggled_here = let e = bit_at_xor m (2 ^ k) k in let p = bit_at-pow_same k in let b = bit_at-lt m k in omega (arith, e, p, b)

  pub toggled_other : (i : ℕ) → i ≢ k → bit_at (toggled m k) i ≡ bit_at m i
  toggled_other i n = let e = bit_at_xor m (2 ^ k) i in let p = bit_at-pow_other k i n in let b = bit_at-lt m i in omega (arith, e, p, b)

  pub toggled_within : m < 2 ^ 32 → k < 32 → toggled m k < 2 ^ 32
  toggled_within l h = xor_lt 32 m (2 ^ k) l (pow-lt h)

  pub toggled_twice : toggled (toggled m k) k ≡ m
  toggled_twice = same_from_bits (toggled (toggled m k) k) m (λ i.
      let e = bit_at_xor (toggled m k) (2 ^ k) i in let f = bit_at_xor m (2 ^ k) i in let b = bit_at-lt m i in omega (arith, e, f, b))

-- ---- how many squares
pub taken : (m k : ℕ) → m < 2 ^ 32 → k < 32 → bit_at m k ≡ 1 → count_ones (toggled m k) + 1 ≡ count_ones m
taken m k l h e =
    let b = board_of 32 m 0 in
    let t = toggled m k in
    let gone = cell_none t k (let n = toggled_here m k in omega (arith, n, e)) in
    let none = cell_none 0 k (bit_at-zero k) in
    let is = board_change 32 m 0 t 0 k Empty h (toggled_other m k) (λ i n. refl) (ap₂ cell_by gone none) in
    let n = number_set is_mine b k Empty (let z = board_length 32 m 0 in omega (arith, z, h)) in
    let one = ap one_if (sym (own_cells 32 m 0 l k) ∙ cell_one m k e) in
    let x = own_pieces 32 t 0 (toggled_within m k l h) (omega arith) (and_comm t 0) in
    let y = own_pieces 32 m 0 l (omega arith) (and_comm m 0) in
    let z = ap (number_of is_mine) is in
    omega (arith, n, one, x, y, z)

pub added : (m k : ℕ) → m < 2 ^ 32 → k < 32 → bit_at m k ≡ 0 → count_ones (toggled m k) ≡ count_ones m + 1
added m k l h e =
    let n = taken (toggled m k) k (toggled_within m k l h) h (let t = toggled_here m k in omega (arith, t, e)) in
    let z = ap count_ones (toggled_twice m k) in
    omega (arith, n, z)

-- ---- the lowest square
-- the lowest square of a mask, and the mask without it
pub record IsLowest (m : ℕ) : Type 0 where
  pub below : trailing_zeros w32 m < 32
  pub has : bit_at m (trailing_zeros w32 m) ≡ 1
  pub within : toggled m (trailing_zeros w32 m) < 2 ^ 32
  pub fewer : count_ones (toggled m (trailing_zeros w32 m)) + 1 ≡ count_ones m

pub lowest : (m : ℕ) → m < 2 ^ 32 → 0 < count_ones m → IsLowest m
lowest m l c =
    let k = trailing_zeros w32 m in
    let t = bit_at-trailing_zeros w32 m (let n = ones_le_self m in omega (arith, n, c)) l in
    record { below = t.0; has = t.1; within = toggled_within m k l t.0; fewer = taken m k l t.0 t.1 }
