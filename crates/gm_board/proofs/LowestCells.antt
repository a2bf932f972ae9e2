-- The lowest cell of a mask, and the mask without it.
use Rattle.gm_board.proofs.Lower.{◌≡◌, ℕ, zero, suc, ◌+◌, ◌-◌, ◌/◌, ◌%◌, ◌^◌, ◌<◌, ◌≤◌, refl, sym, ap, ap₂, ◌∙◌, arith, inl, inr, bit_and, bit_at, trailing_zeros, w32, cases_lt, shr_split, mod_below, bit_at_cat_low, bit_at_cat_high}
use Rattle.std.proofs.Common.{pow_pos, ◌*◌}
use Rattle.std.proofs.Math.Nat.{two-pow-succ}
use Rattle.std.proofs.lemmas.Nat.{mod-pow-add}
use Rattle.std.proofs.lemmas.Nat.Bits.{bit_at-trailing_zeros, bit_at_above, bit_at_and}

-- the rest has the cells of the mask from `next` on
pub record IsRest (mask next rest : ℕ) : Type 0 where
  pub none : (i : ℕ) → i < next → bit_at rest i ≡ 0
  pub same : (i : ℕ) → next ≤ i → bit_at rest i ≡ bit_at mask i

-- all cells are left
pub rest_whole : (mask : ℕ) → IsRest mask 0 mask
rest_whole mask = record { none = λ i l. absurd (omega arith); same = λ i l. refl }

-- `cell` is the lowest cell of the rest, and what is left without it
pub record IsLowest (mask next rest cell : ℕ) : Type 0 where
  pub from : next ≤ cell
  pub small : cell < 32
  pub has : bit_at mask cell ≡ 1
  pub none : (i : ℕ) → i < cell - next → bit_at mask (next + i) ≡ 0
  pub left : IsRest mask (cell + 1) (bit_and rest (rest - 1))

-- the bits below the lowest are a number without weight
low_zero : (r c : ℕ) → ((i : ℕ) → i < c → bit_at r i ≡ 0) → r % 2 ^ c ≡ 0
low_zero r zero f = let l : r % 1 < 1 = mod_below r 1 (omega arith) in let e : r % 1 ≡ 0 = omega (arith, l) in e
low_zero r (suc c) f =
    ap (λ (k : ℕ). r % 2 ^ k) (let e : suc c ≡ 1 + c = omega arith in e)
    ∙ mod-pow-add r 1 c
    ∙ ap₂ (λ (a b : ℕ). a * 2 ^ c + b) (f c (omega arith)) (low_zero r c (λ i l. f i (omega arith)))
    ∙ (let e : 0 * 2 ^ c + 0 ≡ 0 = omega arith in e)

-- a number with its lowest bit at c, and that number less one, by the bits above c
pub record IsSplit (r c a : ℕ) : Type 0 where
  pub it : r ≡ a * 2 ^ (c + 1) + 2 ^ c
  pub less : r - 1 ≡ a * 2 ^ (c + 1) + (2 ^ c - 1)

split : (r c : ℕ) → bit_at r c ≡ 1 → ((i : ℕ) → i < c → bit_at r i ≡ 0) → IsSplit r c (r / 2 ^ (c + 1))
split r c e f =
    let m : r % 2 ^ (c + 1) ≡ 1 * 2 ^ c + 0 =
    ap (λ (k : ℕ). r % 2 ^ k) (let z : c + 1 ≡ 1 + c = omega arith in z) ∙ mod-pow-add r 1 c ∙ ap₂ (λ (a b : ℕ). a * 2 ^ c + b) e (low_zero r c f) in
    let p : 0 < 2 ^ c = pow_pos c in
    record { it = omega (arith, shr_split r (c + 1), m); less = omega (arith, shr_split r (c + 1), m, p) }

power_next : (c : ℕ) → 2 ^ (c + 1) ≡ 2 ^ c + 2 ^ c
power_next c = ap (λ (k : ℕ). 2 ^ k) (let e : c + 1 ≡ suc c = omega arith in e) ∙ two-pow-succ c

-- without its lowest cell a mask has no cell up to there
cleared_low : (r c i : ℕ) → bit_at r c ≡ 1 → ((j : ℕ) → j < c → bit_at r j ≡ 0) → i < c + 1 → bit_at (bit_and r (r - 1)) i ≡ 0
cleared_low r c i e f l = elim (cases_lt i c) [
  | inl h ↦ omega (arith, bit_at_and r (r - 1) i, f i h)
  | inr h ↦
      let s = split r c e f in
      let p : 0 < 2 ^ c = pow_pos c in
      let b : bit_at (r - 1) i ≡ 0 =
      ap (λ (v : ℕ). bit_at v i) s.less ∙ bit_at_cat_low (r / 2 ^ (c + 1)) (c + 1) (2 ^ c - 1) i l ∙ bit_at_above (2 ^ c - 1) c i
      (let q : 2 ^ c - 1 < 2 ^ c = omega (arith, p) in q) h in
      omega (arith, bit_at_and r (r - 1) i, b)
]

-- and the same cells above
cleared_high : (r c i : ℕ) → bit_at r c ≡ 1 → ((j : ℕ) → j < c → bit_at r j ≡ 0) → c + 1 ≤ i → bit_at (bit_and r (r - 1)) i ≡ bit_at r i
cleared_high r c i e f l =
    let s = split r c e f in
    let a = r / 2 ^ (c + 1) in
    let p : 0 < 2 ^ c = pow_pos c in
    let less : bit_at (r - 1) i ≡ bit_at a (i - (c + 1)) =
    ap (λ (v : ℕ). bit_at v i) s.less ∙ bit_at_cat_high a (c + 1) (2 ^ c - 1) i (let q : 2 ^ c - 1 < 2 ^ (c + 1) = omega (arith, p, power_next c) in q) l in
    let it : bit_at r i ≡ bit_at a (i - (c + 1)) =
    ap (λ (v : ℕ). bit_at v i) s.it ∙ bit_at_cat_high a (c + 1) (2 ^ c) i (let q : 2 ^ c < 2 ^ (c + 1) = omega (arith, p, power_next c) in q) l in
    omega (arith, bit_at_and r (r - 1) i, less, it)

-- the lowest cell of what is left of a mask
pub lowest : (mask next rest : ℕ) → IsRest mask next rest → rest < 2 ^ 32 → 0 < rest → IsLowest mask next rest (trailing_zeros w32 rest)
lowest mask next rest h g p =
    let c = trailing_zeros w32 rest in
    let z = bit_at-trailing_zeros w32 rest p g in
    let from : next ≤ c = elim (cases_lt c next) [
      | inl l ↦ absurd (let n : bit_at rest c ≡ 0 = h.none c l in omega (arith, n, z.1))
      | inr l ↦ l
    ] in
    record {
      from = from;
      small = z.0;
      has = sym (h.same c from) ∙ z.1;
      none = λ i l. sym (h.same (next + i) (omega arith)) ∙ z.2 (next + i) (omega (arith, l, from));
      left = record {
        none = λ i l. cleared_low rest c i z.1 z.2 l;
        same = λ i l. cleared_high rest c i z.1 z.2 l ∙ h.same i (omega (arith, l, from));
      };
    }

-- if nothing is left, the mask has no cell from `next` on
pub nothing_left : (mask next rest i : ℕ) → IsRest mask next rest → rest ≡ 0 → next ≤ i → bit_at mask i ≡ 0
nothing_left mask next rest i h e l = sym (h.same i l) ∙ ap (λ (v : ℕ). bit_at v i) e ∙ bit_at_above 0 0 i (omega arith) (omega arith)
