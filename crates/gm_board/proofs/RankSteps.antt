-- The steps of ranking a mask, from its lowest cell up.
use Rattle.gm_board.proofs.Lower.{◌≡◌, ℕ, suc, ◌+◌, ◌-◌, ◌/◌, ◌%◌, ◌^◌, ◌<◌, ◌≤◌, length, sym, ap, ap₂, ◌∙◌, arith, bit_and, count_ones, bit_at, trailing_zeros, w32, shr_split, mod_below, bit_at_cat_low, bit_at_cat_high, binomial, members, rank, members_le, tests_of, tests_length, mask_rank_at}
use Rattle.std.proofs.lemmas.Nat.Bits.{bit_at-zero}
use Rattle.gm_board.specs.laws.Binomials.{binomial_small}
use Rattle.gm_board.specs.laws.Ranks.{rank_below}
use Rattle.gm_board.specs.laws.Masks.{tests_same, members_ones, members_skips, rank_skips, members_add, rank_add}
use Rattle.std.proofs.Common.{◌*◌}
use Rattle.gm_board.specs.Masks.{mask_rank}
use Rattle.gm_board.proofs.LowestCells.{IsRest, lowest, nothing_left}

-- the cells below some `next` are counted, and `rest` has the others
pub record IsCounted (mask rest count sum : ℕ) : Type 0 where
  pub next : ℕ
  pub within : next ≤ 32
  pub is_rest : IsRest mask next rest
  pub is_count : count ≡ members (tests_of next mask)
  pub is_sum : sum ≡ rank (tests_of next mask)

-- the lowest 25 cells are counted together
pub counted_low : (mask : ℕ) → IsCounted mask (mask - mask % 2 ^ 25) (count_ones (mask % 2 ^ 25)) (mask_rank (mask % 2 ^ 25))
counted_low mask =
    let low = mask % 2 ^ 25 in
    let high = mask / 2 ^ 25 in
    let below : low < 2 ^ 25 = mod_below mask (2 ^ 25) (omega arith) in
    let whole : mask ≡ high * 2 ^ 25 + low = omega (arith, shr_split mask 25) in
    let rest : mask - low ≡ high * 2 ^ 25 + 0 = omega (arith, whole) in
    record {
      next = 25;
      within = omega arith;
      is_rest = record {
        none = λ i l. ap (λ (v : ℕ). bit_at v i) rest ∙ bit_at_cat_low high 25 0 i l ∙ bit_at-zero i;
        same = λ i l. ap (λ (v : ℕ). bit_at v i) rest ∙ bit_at_cat_high high 25 0 i (omega arith) l ∙ sym
            (ap (λ (v : ℕ). bit_at v i) whole ∙ bit_at_cat_high high 25 low i below l);
      };
      is_count = sym (members_ones 25 mask);
      is_sum = mask_rank_at 25 low (omega arith) below ∙ ap rank (tests_same 25 low mask
          (λ i l. sym (ap (λ (v : ℕ). bit_at v i) whole ∙ bit_at_cat_low high 25 low i l)));
    }

-- bounds on what is counted
pub record IsCountedSmall (count sum : ℕ) : Type 0 where
  pub count_le : count ≤ 32
  pub sum_below : sum < 2 ^ 32

-- the bounds hold
pub counted_small : (mask rest count sum : ℕ) → IsCounted mask rest count sum → IsCountedSmall count sum
counted_small mask rest count sum h = record {
  count_le = omega (arith, h.is_count, members_le (tests_of h.next mask), tests_length h.next mask, h.within);
  sum_below =
      let l : length (tests_of h.next mask) ≤ 32 = omega (arith, tests_length h.next mask, h.within) in
      omega (arith, h.is_sum, rank_below (tests_of h.next mask), binomial_small (length (tests_of h.next mask)) (members (tests_of h.next mask)) l);
}

-- the lowest cell of the rest is one of the board's
pub lowest_below : (mask rest count sum : ℕ) → IsCounted mask rest count sum → rest < 2 ^ 32 → 0 < rest → trailing_zeros w32 rest < 32
lowest_below mask rest count sum h g p = (lowest mask h.next rest h.is_rest g p).small

-- the lowest cell of the rest is counted
pub counted_more : (mask rest count sum : ℕ) → IsCounted mask rest count sum → rest < 2 ^ 32 → 0 < rest
    → IsCounted mask (bit_and rest (rest - 1)) (count + 1) (sum + binomial (trailing_zeros w32 rest) (count + 1))
counted_more mask rest count sum h g p =
    let c = trailing_zeros w32 rest in
    let z = lowest mask h.next rest h.is_rest g p in
    let at : h.next + (c - h.next) ≡ c = omega (arith, z.from) in
    let e : c + 1 ≡ suc c = omega arith in
    let ms : members (tests_of c mask) ≡ count = ap (λ (k : ℕ). members (tests_of k mask)) (sym at) ∙ members_skips h.next (c - h.next) mask z.none ∙ sym
    h.is_count in
    let rs : rank (tests_of c mask) ≡ sum = ap (λ (k : ℕ). rank (tests_of k mask)) (sym at) ∙ rank_skips h.next (c - h.next) mask z.none ∙ sym h.is_sum in
    let more : suc (members (tests_of c mask)) ≡ count + 1 = omega (arith, ms) in
    record {
      next = c + 1;
      within = omega (arith, z.small);
      is_rest = z.left;
      is_count = sym (ap (λ (k : ℕ). members (tests_of k mask)) e ∙ members_add c mask z.has ∙ more);
      is_sum = sym (
          ap (λ (k : ℕ). rank (tests_of k mask)) e
          ∙ rank_add c mask z.has
          ∙ ap₂ (λ (a b : ℕ). a + b) (ap (binomial c) more) rs
          ∙ (let q : binomial c (count + 1) + sum ≡ sum + binomial c (count + 1) = omega arith in q));
    }

-- no cell is left
pub counted_all : (mask rest count sum : ℕ) → IsCounted mask rest count sum → rest ≡ 0 → sum ≡ mask_rank mask
unfolding mask_rank
counted_all mask rest count sum h n =
    h.is_sum
    ∙ sym (
    ap (λ (k : ℕ). rank (tests_of k mask)) (let e : 32 ≡ h.next + (32 - h.next) = omega (arith, h.within) in e)
    ∙ rank_skips h.next (32 - h.next) mask (λ i l. nothing_left mask h.next rest (h.next + i) h.is_rest n (omega arith)))
