-- Four tiles of a tier: every index is in one, and what is known of each is known of the tier.
use Rattle.gm_backward.proofs.Lower.{◌≡◌, ℕ, zero, suc, ◌+◌, ◌<◌, ◌≤◌, inl, inr, List, [], ◌++◌, length, replicate, Option, Some, slice_get, sym, ap, subst, ◌∙◌, refl, arith, cases_lt, REMOTENESS, Position, Phase, Ties, WinLose, Place, Solved, Rules, IsTrueTable, StandsBefore, IsNumberBefore, ShardState, IsGood, place_of, Spot, spot_of, HasNoneHere, tile_at, cut_at, Cuts, AreRecordsOf}
use Rattle.std.proofs.Common.{ap₂}
use Rattle.std.proofs.lemmas.List.{length-replicate, append_assoc, length-append}
use Rattle.gm_frontier.specs.Counts.{IsPairInto}
use Rattle.gm_counters.specs.State.{pairs_in}
use Rattle.gm_counters.specs.inner.Begin.{first_state}
use Rattle.gm_table.specs.Solving.{ArePart}
use Rattle.gm_locks.specs.Spots.{for_shard}
use Rattle.gm_backward.specs.inner.Covered.{IsCovered}
use Rattle.gm_backward.specs.inner.Tiling.{AreShardsAt, AreGood, HaveNoneHere, IsShardFinished}
use Rattle.gm_frontier.specs.Levels.{place_at}
use Rattle.gm_counters.proofs.CloseLemmas.{number_before}
use Rattle.gm_locks.specs.declared.four.Four.{Four}
use Rattle.gm_backward.specs.inner.Cuts.{AreCuts}
use Rattle.gm_immediate.proofs.Deliveries.{there_sum}
use Rattle.gm_immediate.proofs.Parts.{part_more, part_whole}

-- the spot of tile k
pub choose_tile : (r : Rules) (place : Place) (cuts : Cuts) (a b c d : Spot) → a ≡ tile_at r place cuts 0 → b ≡ tile_at r place cuts 1
    → c ≡ tile_at r place cuts 2 → d ≡ tile_at r place cuts 3 → (k : ℕ) → k < 4 → for_shard k a b c d ≡ tile_at r place cuts k
choose_tile r place cuts a b c d ea eb ec ed zero l = ea
choose_tile r place cuts a b c d ea eb ec ed (suc zero) l = eb
choose_tile r place cuts a b c d ea eb ec ed (suc (suc zero)) l = ec
choose_tile r place cuts a b c d ea eb ec ed (suc (suc (suc zero))) l = ed
choose_tile r place cuts a b c d ea eb ec ed (suc (suc (suc (suc k)))) l = absurd (omega arith)

-- the place of a shard, by its spot
pub spot_place : (r : Rules) (place : Place) (cuts : Cuts) (k : ℕ) (s : ShardState) → spot_of s ≡ tile_at r place cuts k → place_of s ≡ place
spot_place r place cuts k s e = ap (λ (x : Spot). place_at x.tier x.phase x.level) e

in_tile : (r : Rules) (place : Place) (cuts : Cuts) (k : ℕ) (s : ShardState) → IsGood r s → spot_of s ≡ tile_at r place cuts k → (i : ℕ)
    → cut_at (r.tier_size place.tier) cuts k ≤ i → i < cut_at (r.tier_size place.tier) cuts (suc k) → IsCovered r place i
in_tile r place cuts k s good e i low high =
    let lo = ap (λ (x : Spot). x.lo) e in
    let hi = ap (λ (x : Spot). x.hi) e in
    record { shard = s; good = good; mine = (omega arith, omega arith); here = spot_place r place cuts k s e }

-- a good shard has each index
pub covered : (r : Rules) (place : Place) (cuts : Cuts) → AreCuts r place.tier cuts → (shards : Four ShardState) → AreShardsAt r place cuts shards
    → IsGood r shards.a → IsGood r shards.b → IsGood r shards.c → IsGood r shards.d
    → (i : ℕ) → i < r.tier_size place.tier → IsCovered r place i
covered r place cuts all shards are a b c d i inside =
    elim (cases_lt i cuts.b) [
      | inl one ↦ in_tile r place cuts 0 shards.a a are.a i (omega arith) one
      | inr one ↦ elim (cases_lt i cuts.c) [
        | inl two ↦ in_tile r place cuts 1 shards.b b are.b i one two
        | inr two ↦ elim (cases_lt i cuts.d) [
          | inl three ↦ in_tile r place cuts 2 shards.c c are.c i two three
          | inr three ↦ in_tile r place cuts 3 shards.d d are.d i three inside
        ]
      ]
    ]

-- the true records of the indexes below n
pub record AreFirst (r : Rules) (tier n : ℕ) (records : List (Option Solved)) : Type 0 where
  pub long : length records ≡ n
  pub part : ArePart r tier 0 records

-- with the part of one more shard
pub first_more : (r : Rules) (tier : ℕ) (s : ShardState) (old new : List (Option Solved)) → AreFirst r tier s.lo old → s.tier ≡ tier
    → ((part : List (Option Solved)) × (new ≡ old ++ part) × (length part ≡ length s.delivered) × ArePart r s.tier s.lo part)
    → AreFirst r tier (s.lo + length s.delivered) new
first_more r tier s old new first same (part, is, long, are) = subst (AreFirst r tier (s.lo + length s.delivered)) (sym is) (record {
  long = (let a = length-append old part in let b = first.long in omega arith);
  part = part_more r tier 0 s.lo old part (let a = first.long in omega arith) first.part (subst (λ (t : ℕ). ArePart r t s.lo part) same are);
})

-- four parts are the true table
pub first_all : (r : Rules) (tier n : ℕ) (records : List (Option Solved)) → AreFirst r tier n records → n ≡ r.tier_size tier
    → IsTrueTable r REMOTENESS tier records
first_all r tier n records first e = part_whole r tier records (first.long ∙ e) first.part

-- the pairs into two ranges that follow one another
pub number_joined : (r : Rules) (tier lo mid hi : ℕ) (phase : Phase) (level m n : ℕ) → lo ≤ mid → mid ≤ hi → IsNumberBefore r tier lo mid phase level m
    → IsNumberBefore r tier mid hi phase level n → IsNumberBefore r tier lo hi phase level (m + n)
number_joined r tier lo mid hi phase level m n below above first second =
    there_sum m n (λ (pair : Position × ℕ). IsPairInto r tier lo mid pair.0 pair.1 × StandsBefore r phase level pair.0)
    (λ (pair : Position × ℕ). IsPairInto r tier mid hi pair.0 pair.1 × StandsBefore r phase level pair.0)
    (λ (pair : Position × ℕ). IsPairInto r tier lo hi pair.0 pair.1 × StandsBefore r phase level pair.0) first second
    (λ pair h k. let a = h.0.high in let b = k.0.low in omega arith)
    (λ pair. (
      λ h. elim (cases_lt pair.1 mid) [
        | inl l ↦ inl (record { low = h.0.low; high = l; is_parent = h.0.is_parent }, h.1)
        | inr l ↦ inr (record { low = l; high = h.0.high; is_parent = h.0.is_parent }, h.1)
      ],
      λ h. elim h [
        | inl k ↦ (record { low = k.0.low; high = (let a = k.0.high in omega arith); is_parent = k.0.is_parent }, k.1)
        | inr k ↦ (record { low = (let a = k.0.low in omega arith); high = k.0.high; is_parent = k.0.is_parent }, k.1)
      ],
    ))

-- the number of pairs into a tile whose child is before the place
pub number_at : (r : Rules) (place : Place) (cuts : Cuts) (k : ℕ) (s : ShardState) (n : ℕ) → spot_of s ≡ tile_at r place cuts k → IsGood r s
    → HasNoneHere r s → n ≡ pairs_in s
    → IsNumberBefore r place.tier (cut_at (r.tier_size place.tier) cuts k) (cut_at (r.tier_size place.tier) cuts (suc k)) place.phase place.level n
number_at r place cuts k s n same good none is =
    subst (λ (m : ℕ). IsNumberBefore r place.tier (cut_at (r.tier_size place.tier) cuts k) (cut_at (r.tier_size place.tier) cuts (suc k))
    place.phase place.level m) (sym is)
    (subst (λ (x : Spot). IsNumberBefore r x.tier x.lo x.hi x.phase x.level (pairs_in s)) same (number_before good none))

-- the numbers of the four add up to that of the tier
pub number_all : (r : Rules) (place : Place) (cuts : Cuts) → AreCuts r place.tier cuts → (shards : Four ShardState) → AreShardsAt r place cuts shards
    → AreGood r shards → HaveNoneHere r shards
    → (a b c d : ℕ) → a ≡ pairs_in shards.a → b ≡ pairs_in shards.b → c ≡ pairs_in shards.c → d ≡ pairs_in shards.d
    → IsNumberBefore r place.tier 0 (r.tier_size place.tier) place.phase place.level (a + b + c + d)
number_all r place cuts all shards are good none a b c d ea eb ec ed =
    let size = r.tier_size place.tier in
    let up = all.ascending in
    let low = up.low in
    let high = up.high in
    let end = up.end in
    let t = place.tier in
    let in_a = number_at r place cuts 0 shards.a a are.a good.a none.a ea in
    let in_b = number_at r place cuts 1 shards.b b are.b good.b none.b eb in
    let in_c = number_at r place cuts 2 shards.c c are.c good.c none.c ec in
    let in_d = number_at r place cuts 3 shards.d d are.d good.d none.d ed in
    let ab = number_joined r t 0 cuts.b cuts.c place.phase place.level a b (omega arith) (omega arith) in_a in_b in
    let abc = number_joined r t 0 cuts.c cuts.d place.phase place.level (a + b) c (omega arith) (omega arith) ab in_c in
    number_joined r t 0 cuts.d size place.phase place.level (a + b + c) d (omega arith) (omega arith) abc in_d

-- the parts of the four are the true table
pub four_parts : (r : Rules) (place : Place) (cuts : Cuts) → AreCuts r place.tier cuts → (shards : Four ShardState) → AreShardsAt r place cuts shards
    → (none one two three four : List (Option Solved)) → none ≡ []
    → ((part : List (Option Solved)) × (one ≡ none ++ part) × (length part ≡ length shards.a.delivered) × ArePart r shards.a.tier shards.a.lo part)
    → ((part : List (Option Solved)) × (two ≡ one ++ part) × (length part ≡ length shards.b.delivered) × ArePart r shards.b.tier shards.b.lo part)
    → ((part : List (Option Solved)) × (three ≡ two ++ part) × (length part ≡ length shards.c.delivered) × ArePart r shards.c.tier shards.c.lo part)
    → ((part : List (Option Solved)) × (four ≡ three ++ part) × (length part ≡ length shards.d.delivered) × ArePart r shards.d.tier shards.d.lo part)
    → IsTrueTable r REMOTENESS place.tier four
four_parts r place cuts all shards are none one two three four empty a b c d =
    let t = place.tier in
    let lo_a = ap (λ (x : Spot). x.lo) are.a in
    let hi_a = ap (λ (x : Spot). x.hi) are.a in
    let lo_b = ap (λ (x : Spot). x.lo) are.b in
    let hi_b = ap (λ (x : Spot). x.hi) are.b in
    let lo_c = ap (λ (x : Spot). x.lo) are.c in
    let hi_c = ap (λ (x : Spot). x.hi) are.c in
    let lo_d = ap (λ (x : Spot). x.lo) are.d in
    let hi_d = ap (λ (x : Spot). x.hi) are.d in
    let start : AreFirst r t shards.a.lo none = subst (AreFirst r t shards.a.lo) (sym empty)
    (record { long = (let e : 0 ≡ shards.a.lo = omega arith in e); part = record { each = λ k o e. absurd (no_item k o e) } }) in
    let at_b : shards.a.lo + length shards.a.delivered ≡ shards.b.lo = omega arith in
    let at_c : shards.b.lo + length shards.b.delivered ≡ shards.c.lo = omega arith in
    let at_d : shards.c.lo + length shards.c.delivered ≡ shards.d.lo = omega arith in
    let end : shards.d.lo + length shards.d.delivered ≡ r.tier_size t = omega arith in
    let first = subst (λ (n : ℕ). AreFirst r t n one) at_b (first_more r t shards.a none one start (ap (λ (x : Spot). x.tier) are.a) a) in
    let second = subst (λ (n : ℕ). AreFirst r t n two) at_c (first_more r t shards.b one two first (ap (λ (x : Spot). x.tier) are.b) b) in
    let third = subst (λ (n : ℕ). AreFirst r t n three) at_d (first_more r t shards.c two three second (ap (λ (x : Spot). x.tier) are.c) c) in
    let fourth = first_more r t shards.d three four third (ap (λ (x : Spot). x.tier) are.d) d in
    first_all r t (shards.d.lo + length shards.d.delivered) four fourth end
  where
    no_item : (k : ℕ) (o : Option Solved) → slice_get {X = Option Solved} [] k ≡ Some o → ⊥
    no_item k o e = absurd (cc)

-- so are those of the two halves
pub four_halves : (r : Rules) (place : Place) (cuts : Cuts) → AreCuts r place.tier cuts → (shards : Four ShardState) → AreShardsAt r place cuts shards
    → (low high all : List (Option Solved)) → AreRecordsOf r shards.a shards.b low → AreRecordsOf r shards.c shards.d high → all ≡ low ++ high
    → IsTrueTable r REMOTENESS place.tier all
four_halves r place cuts which shards are low high all l h e =
    let three = (l.first ++ l.second) ++ h.first in
    four_parts r place cuts which shards are [] l.first (l.first ++ l.second) three all refl
    (l.first, refl, l.first_is.long, l.first_is.are_true)
    (l.second, refl, l.second_is.long, l.second_is.are_true)
    (h.first, refl, h.first_is.long, h.first_is.are_true) (
      h.second,
      e ∙ ap₂ (λ (a b : List (Option Solved)). a ++ b) l.both h.both ∙ sym (append_assoc (l.first ++ l.second) h.first h.second),
      h.second_is.long,
      h.second_is.are_true,
    )

-- a tile of a tier at whose place nothing is left to settle
pub ended_at : (r : Rules) (place : Place) (cuts : Cuts) (k : ℕ) (s : ShardState) → spot_of s ≡ tile_at r place cuts k
    → (last : Place) → last ≡ place → place.phase ≡ Ties → IsShardFinished s last
ended_at r place cuts k s is last at ties = record {
  last_is = at ∙ sym (spot_place r place cuts k s is);
  ties = ap (λ (x : Spot). x.phase) is ∙ ties;
}

-- a shard of a tile before the first level
pub begun_at : (r : Rules) (tier : ℕ) (cuts : Cuts) (k lo n : ℕ) (s : ShardState) → s ≡ first_state tier lo n → lo ≡ cut_at (r.tier_size tier) cuts k
    → lo + n ≡ cut_at (r.tier_size tier) cuts (suc k)
    → spot_of s ≡ tile_at r (place_at tier WinLose 0) cuts k
begun_at r tier cuts k lo n s is from to =
    let spot : ℕ → ℕ → Spot = λ l h. record { tier = tier; lo = l; hi = h; phase = WinLose; level = 0 } in
    let none : List Position = [] in
    let end : lo + length (replicate n none) ≡ cut_at (r.tier_size tier) cuts (suc k) = ap (λ (m : ℕ). lo + m) (length-replicate n none) ∙ to in
    ap spot_of is ∙ ap (spot lo) end ∙ ap (λ (l : ℕ). spot l (cut_at (r.tier_size tier) cuts (suc k))) from
