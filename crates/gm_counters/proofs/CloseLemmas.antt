-- A level is whole exactly where as many pairs are delivered as there are.
use Rattle.gm_counters.proofs.Lower.{◌≡◌, ℕ, zero, suc, ◌+◌, ◌-◌, ◌<◌, ◌≤◌, inl, inr, true, List, [], ◌∷◌, ◌++◌, length, get_or, map, refl, ap, sym, subst, arith, Contains, length-map, REMOTENESS, MOVES, TIER_SIZE, Position, Phase, WinLose, Rules, IsGame, StandsAt, StandsBefore, IsLastLevel, AreAscending, contains_none, Contains-append_left, Contains-append_right, Contains-append_cases, Status, ShardState, IsInRange, delivered_to, pairs_in, IsGood, IsShardKept, IsWhole, at_next_level, first_ties}
use Rattle.std.proofs.Common.{sum_by, ◌*◌}
use Rattle.std.proofs.lemmas.List.{length-append}
use Rattle.std.proofs.lemmas.List.Sums.{sum_by-cons}
use Rattle.gm_game.specs.declared.position.Place.{Place}
use Rattle.gm_game.specs.Children.{is_before}
use Rattle.gm_game.proofs.Lists.{map_from, map_in}
use Rattle.gm_game.proofs.SetLemmas.{before_itself, all_there as fact_there}
use Rattle.gm_frontier.specs.Counts.{IsPairInto, IsNumberBefore}
use Rattle.gm_table.proofs.Distinct.{no_repeats_to, no_repeats_append, no_repeats_map}
use Rattle.gm_frontier.proofs.ForGame.{stands_now, before_later, before_ties, ties_after}
use Rattle.gm_counters.specs.Steps.{CanTurn}
use Rattle.gm_game.proofs.Counts.{HasNoRepeats}
use Rattle.gm_frontier.proofs.PairLemmas.{near_of_pair}
use Rattle.gm_counters.proofs.MaskList.{sum_small}

-- ascending positions are different
no_repeats_ascending : (d : List Position) → AreAscending d → HasNoRepeats d
no_repeats_ascending [] up = tt
no_repeats_ascending (q ∷ qs) up = (λ h. before_itself q (fact_there (λ x. is_before q x ≡ true) qs q up.0 h), no_repeats_ascending qs up.1)

-- the pairs of a child and an index
abbrev with_index : ℕ → Position → Position × ℕ
with_index i c = (c, i)

abbrev pub pairs_from : ℕ → List (List Position) → List (Position × ℕ)
pairs_from i [] = []
pairs_from i (d ∷ ds) = map (with_index i) d ++ pairs_from (suc i) ds

pub length-pairs : (i : ℕ) (ds : List (List Position)) → length (pairs_from i ds) ≡ sum_by length ds
length-pairs i [] = refl
length-pairs i (d ∷ ds) =
    let a = length-append (map (with_index i) d) (pairs_from (suc i) ds) in
    let m = length-map d (with_index i) in
    let s = sum_by-cons (length {A = Position}) d ds in
    let rest = length-pairs (suc i) ds in
    omega arith

pub pair_there : (i : ℕ) (ds : List (List Position)) (j : ℕ) (c : Position) → j < length ds → Contains (get_or ds j []) c → Contains (pairs_from i ds) (c, i + j)
pair_there i [] j c l h = absurd (omega arith)
pair_there i (d ∷ ds) zero c l h =
    let e : i ≡ i + 0 = omega arith in
    Contains-append_left (map (with_index i) d) (pairs_from (suc i) ds) (c, i + 0)
    (subst (λ (k : ℕ). Contains (map (with_index i) d) (c, k)) e (map_from (with_index i) d c h))
pair_there i (d ∷ ds) (suc j) c l h =
    let e : suc i + j ≡ i + suc j = omega arith in
    Contains-append_right (map (with_index i) d) (pairs_from (suc i) ds) (c, i + suc j)
    (subst (λ (k : ℕ). Contains (pairs_from (suc i) ds) (c, k)) e (pair_there (suc i) ds j c (omega arith) h))

pub pair_from : (i : ℕ) (ds : List (List Position)) (p : Position × ℕ) → Contains (pairs_from i ds) p → (j : ℕ) × (p.1 ≡ i + j) × (j < length ds)
    × Contains (get_or ds j []) p.0
pair_from i [] p h = absurd (contains_none p h)
pair_from i (d ∷ ds) p h =
    elim (Contains-append_cases (map (with_index i) d) (pairs_from (suc i) ds) p h) [
      | inl a ↦ (let (c, l, e) = map_in (with_index i) d p a in
          let e1 : i ≡ p.1 = ap (λ (q : Position × ℕ). q.1) e in
          (0, omega arith, omega arith, subst (λ (x : Position). Contains d x) (ap (λ (q : Position × ℕ). q.0) e) l))
      | inr b ↦ (let (j, e, l, k) = pair_from (suc i) ds p b in (suc j, omega arith, omega arith, k))
    ]

pub no_repeats_pairs : (i : ℕ) (ds : List (List Position)) → ((j : ℕ) → j < length ds → AreAscending (get_or ds j [])) → HasNoRepeats (pairs_from i ds)
no_repeats_pairs i [] up = tt
no_repeats_pairs i (d ∷ ds) up =
    no_repeats_append (map (with_index i) d) (pairs_from (suc i) ds)
    (no_repeats_map (with_index i) d (λ x y a b e. ap (λ (q : Position × ℕ). q.0) e) (no_repeats_ascending d (up 0 (omega arith))))
    (no_repeats_pairs (suc i) ds (λ j l. up (suc j) (omega arith)))
    (λ x a b. (let (c, l, e) = map_in (with_index i) d x a in let e1 : i ≡ x.1 = ap (λ (q : Position × ℕ). q.1) e in
    let (j, f, m, k) = pair_from (suc i) ds x b in absurd (omega arith)))

-- the next level
pub kept_next : (r : Rules) (s : ShardState) (statuses : List Status) (left : List ℕ) (count : ℕ) → IsShardKept r s statuses left count → IsWhole r s
    → s.level ≤ REMOTENESS → IsShardKept r (at_next_level s) statuses left count
kept_next r s statuses left count t w l = record {
  shard = record {
    once = t.shard.once;
    pairs = λ (i : ℕ) (c : Position) m h. (let q = t.shard.pairs i c m h in (q.0, before_later r s.phase (s.level + 1) (s.level + 1 + 1) c (omega arith) q.1));
    whole = λ (i : ℕ) (c : Position) m p b. w i c m p b;
    fits = omega arith;
    many = t.shard.many;
    known = t.shard.known;
  };
  as_many = t.as_many;
  counted = λ (i n : ℕ) m h. (let k = t.counted i n m h in record { inner = k.inner; other = k.other });
  number = t.number;
  few = t.few;
  short = t.short;
}

-- the first level of ties
pub kept_ties : (r : Rules) → IsGame r → (s : ShardState) (statuses : List Status) (left : List ℕ) (count : ℕ) → IsShardKept r s statuses left count
    → (last : Place) → IsLastLevel r last.tier last.phase last.level → CanTurn s last
    → IsShardKept r (first_ties s) statuses left count
kept_ties r g s statuses left count t last is turn = record {
  shard = record {
    once = t.shard.once;
    pairs = λ (i : ℕ) (c : Position) m h. (let q = t.shard.pairs i c m h in
        (q.0, ties_after r (s.level + 1) (0 + 1) c (subst (λ (ph : Phase). StandsBefore r ph (s.level + 1) c) turn.phase q.1)));
    whole = λ (i : ℕ) (c : Position) m p b. t.shard.whole i c m p
        (subst (λ (ph : Phase). StandsBefore r ph s.level c) (sym turn.phase) (before_ties r s.tier s.level c is_last (near_of_pair r g s.tier i c p) b));
    fits = omega arith;
    many = t.shard.many;
    known = t.shard.known;
  };
  as_many = t.as_many;
  counted = λ (i n : ℕ) m h. (let k = t.counted i n m h in record { inner = k.inner; other = k.other });
  number = t.number;
  few = t.few;
  short = t.short;
}
  where
    is_last : IsLastLevel r s.tier WinLose s.level
    is_last = subst (λ (ph : Phase). IsLastLevel r s.tier ph s.level) turn.phase (subst (λ (p : Place). IsLastLevel r p.tier p.phase p.level) turn.stands is)

-- the number of pairs is small
pub few_there : (r : Rules) (s : ShardState) (statuses : List Status) (left : List ℕ) (count : ℕ) → IsShardKept r s statuses left count
    → pairs_in s ≤ MOVES * TIER_SIZE
few_there r s statuses left count t =
    let m = sum_small MOVES s.delivered (λ k l. subst (λ (j : ℕ). length (get_or s.delivered j []) ≤ MOVES) (let e : s.lo + k - s.lo ≡ k = omega arith in e)
    (t.short (s.lo + k) (omega arith, omega arith))) in
    let f = t.few in
    omega arith

-- if no child at the present place is there, the pairs are all those whose child is before it
module _ {r : Rules} {s : ShardState} (t : IsGood r s) (none : (i : ℕ) (c : Position) → IsInRange s i → Contains (delivered_to s i) c
    → StandsAt r s.phase s.level c → ⊥) where
  before_has : (p : Position × ℕ) → IsPairInto r s.tier s.lo (s.lo + length s.delivered) p.0 p.1 × StandsBefore r s.phase s.level p.0
      → Contains (pairs_from s.lo s.delivered) p
  before_has p k =
      let low = k.0.low in
      let high = k.0.high in
      let z : s.lo + (p.1 - s.lo) ≡ p.1 = omega arith in
      let here = t.whole p.1 p.0 (low, high) k.0.is_parent k.1 in
      subst (λ (i : ℕ). Contains (pairs_from s.lo s.delivered) (p.0, i)) z (pair_there s.lo s.delivered (p.1 - s.lo) p.0 (omega arith) here)

  before_is : (p : Position × ℕ) → Contains (pairs_from s.lo s.delivered) p → IsPairInto r s.tier s.lo (s.lo + length s.delivered) p.0 p.1
      × StandsBefore r s.phase s.level p.0
  before_is p h =
      let (j, k, l, q) = pair_from s.lo s.delivered p h in
      let z : j ≡ p.1 - s.lo = omega arith in
      let m : IsInRange s p.1 = (omega arith, omega arith) in
      let there : Contains (delivered_to s p.1) p.0 = subst (λ (i : ℕ). Contains (get_or s.delivered i []) p.0) z q in
      let pair = t.pairs p.1 p.0 m there in (
        record { low = m.0; high = m.1; is_parent = pair.0 },
        elim (stands_now r s.phase s.level p.0 pair.1) [ inl b ↦ b | inr a ↦ absurd (none p.1 p.0 m there a) ],
      )

  pub number_before : IsNumberBefore r s.tier s.lo (s.lo + length s.delivered) s.phase s.level (pairs_in s)
  number_before = (
    pairs_from s.lo s.delivered,
    length-pairs s.lo s.delivered,
    record {
      each = λ (p : Position × ℕ). (before_has p, before_is p);
      once = no_repeats_to (pairs_from s.lo s.delivered)
          (no_repeats_pairs s.lo s.delivered (λ j l. subst (λ (k : ℕ). AreAscending (get_or s.delivered k [])) (let z : s.lo + j - s.lo ≡ j = omega arith in z)
          (t.once (s.lo + j) (omega arith, omega arith))));
    },
  )
