-- What follows from the definitions of specs/NextCells.antt.
use Rattle.std.specs.Int.{bit_at, trailing_zeros, w32}
use Rattle.std.proofs.lemmas.Bool.{cases_lt}
use Rattle.std.proofs.lemmas.Nat.{shr-shr, shr_split, mod_below}
use Rattle.std.proofs.lemmas.Nat.Bits.{bit_at-trailing_zeros, bit_at_above}
use Rattle.gm_board.specs.Masks.{has_cell}
use Rattle.std.proofs.Common.{◌≡◌, ℕ, ◌+◌, ◌*◌, ◌/◌, ◌%◌, ◌^◌, ◌<◌, ◌≤◌, true, false, refl, sym, ap, ◌∙◌, arith, inl, inr, pow_pos}
use Rattle.gm_board.specs.inner.NextCells.{IsNext}

-- a bit that is set is a cell, and one that is not is none
pub cell_one : (m c : ℕ) → bit_at m c ≡ 1 → has_cell m c ≡ true
cell_one m c e = rw e refl

pub cell_none : (m c : ℕ) → bit_at m c ≡ 0 → has_cell m c ≡ false
cell_none m c e = rw e refl

-- before the first cell, all of the mask is left
pub rest_all : (mask : ℕ) → mask ≡ mask / 2 ^ 0
rest_all mask = let e : mask / 1 * 1 + mask % 1 ≡ mask = shr_split mask 0 in let z : mask % 1 < 1 = mod_below mask 1 (omega arith) in let q : mask ≡ mask /
    1 = omega (arith, e, z) in q

-- the next cell is the lowest one of what is left of the mask
pub next_cell : (mask next rest : ℕ) → rest ≡ mask / 2 ^ next → rest < 2 ^ 32 → 0 < rest → IsNext mask next (trailing_zeros w32 rest)
    (rest / 2 ^ trailing_zeros w32 rest / 2)
next_cell mask next rest e g p =
    let s = trailing_zeros w32 rest in
    let z = bit_at-trailing_zeros w32 rest p g in
    record {
      has = cell_one mask (next + s) (moved s z.1);
      none = λ i l. cell_none mask (next + i) (moved_none i (z.2 i l));
      is_rest =
          ap (λ (v : ℕ). v / 2 ^ s / 2) e
          ∙ ap (λ (v : ℕ). v / 2) (shr-shr mask next s)
          ∙ shr-shr mask (next + s) 1;
    }
  where
    at : (i : ℕ) → bit_at mask (next + i) ≡ bit_at rest i
    at i = sym (ap (λ (v : ℕ). bit_at v i) e ∙ ap (λ (v : ℕ). v % 2) (shr-shr mask next i))

    moved : (i : ℕ) → bit_at rest i ≡ 1 → bit_at mask (next + i) ≡ 1
    moved i q = at i ∙ q

    moved_none : (i : ℕ) → bit_at rest i ≡ 0 → bit_at mask (next + i) ≡ 0
    moved_none i q = at i ∙ q

-- a cell of a mask that fits is below its bound
pub cell_below : (mask n c : ℕ) → mask < 2 ^ n → has_cell mask c ≡ true → c < n
cell_below mask n c l e =
    elim (cases_lt c n) [
      | inl k ↦ k
      | inr k ↦ absurd (let z : false ≡ true = sym (cell_none mask c (bit_at_above mask n c l k)) ∙ e in cc)
    ]

-- if nothing is left, the mask has no cell from `next` on
pub none_left : (mask next rest i : ℕ) → rest ≡ mask / 2 ^ next → rest ≡ 0 → next ≤ i → has_cell mask i ≡ false
none_left mask next rest i e n l =
    let q = shr_split mask next in
    let k : mask % 2 ^ next < 2 ^ next = mod_below mask (2 ^ next) (pow_pos next) in
    let z : mask / 2 ^ next * 2 ^ next ≡ 0 = ap (λ (v : ℕ). v * 2 ^ next) (sym e ∙ n) ∙ (let t : 0 * 2 ^ next ≡ 0 = omega arith in t) in
    let f : mask < 2 ^ next = omega (arith, q, k, z) in
    cell_none mask i (bit_at_above mask next i f l)
