-- A level is whole exactly where as many pairs are delivered as there are.
use Rattle.gm_shard.proofs.Lower.{◌≡◌, ℕ, ◌+◌, ◌-◌, ◌<◌, ◌≤◌, inl, inr, List, [], length, get_or, refl, sym, subst, arith, Some, Result, Ok, Contains, Position, Rules, ShardState, IsInRange, delivered_to, IsGood}
use Rattle.std.proofs.Common.{Option, Err}
use Rattle.std.specs.Result.{IsOk}
use Rattle.gm_game.specs.declared.position.Phase.{Phase}
use Rattle.gm_game.specs.declared.position.Phase.TheVariants.{Ties}
use Rattle.gm_game.specs.declared.position.Place.{Place}
use Rattle.gm_game.specs.Rules.{IsParent}
use Rattle.gm_game.specs.Laws.{IsGame}
use Rattle.gm_game.specs.Places.{StandsBefore, IsNear}
use Rattle.gm_game.specs.Children.{AreAscending}
use Rattle.gm_frontier.specs.Counts.{ExpectedData, IsExpected, IsPairInto, Follows}
use Rattle.gm_table.proofs.Distinct.{no_repeats_from}
use Rattle.gm_frontier.proofs.ForGame.{before_ties, ties_after}
use Rattle.gm_shard.specs.declared.short.Short.{Short}
use Rattle.gm_counters.specs.State.{pairs_in}
use Rattle.gm_shard.specs.Closing.{IsFor, Closes}
use Rattle.gm_counters.specs.Steps.{IsWhole, place_of}
use Rattle.gm_game.proofs.Counts.{HasNoRepeats, all_there, no_longer}
use Rattle.gm_frontier.proofs.PairLemmas.{near_of_pair}
use Rattle.gm_counters.proofs.CloseLemmas.{pairs_from, length-pairs, pair_there, pair_from, no_repeats_pairs}

-- before the next level that follows stands what is at the present one or before
to_here : (r : Rules) (tier : ℕ) (here : Place) (ph : Phase) (n : ℕ) (c : Position) → Follows r tier (Some here) ph n → IsNear r tier c → StandsBefore r ph n c
    → StandsBefore r here.phase (here.level + 1) c
to_here r tier here ph n c (inl (p, l)) near s =
    subst (λ (k : ℕ). StandsBefore r here.phase k c) l (subst (λ (q : Phase). StandsBefore r q n c) (sym p) s)
to_here r tier here ph n c (inr (p, l, w, last)) near s =
    subst (λ (q : Phase). StandsBefore r q (here.level + 1) c) (sym w)
    (before_ties r tier (here.level + 1) c last near (subst (λ (k : ℕ). StandsBefore r Ties k c) l (subst (λ (q : Phase). StandsBefore r q n c) p s)))

from_here : (r : Rules) (tier : ℕ) (here : Place) (ph : Phase) (n : ℕ) (c : Position) → Follows r tier (Some here) ph n
    → StandsBefore r here.phase (here.level + 1) c → StandsBefore r ph n c
from_here r tier here ph n c (inl (p, l)) s =
    subst (λ (q : Phase). StandsBefore r q n c) p (subst (λ (k : ℕ). StandsBefore r here.phase k c) (sym l) s)
from_here r tier here ph n c (inr (p, l, w, last)) s =
    subst (λ (q : Phase). StandsBefore r q n c) (sym p) (ties_after r (here.level + 1) n c (subst (λ (q : Phase). StandsBefore r q (here.level + 1) c) w s))

-- a good shard, and a count for it that has the present level
module _ {r : Rules} (g : IsGame r) {s : ShardState} (t : IsGood r s) {e : ExpectedData} (x : IsExpected r e) (f : IsFor e s) where
  follows : Follows r s.tier (Some (place_of s)) e.phase e.level
  follows = subst (λ (u : ℕ). Follows r u (Some (place_of s)) e.phase e.level) f.tier
      (subst (λ (o : Option Place). Follows r e.tier o e.phase e.level) f.last x.next)

  ours : List (Position × ℕ)
  ours = pairs_from s.lo s.delivered

  theirs : List (Position × ℕ)
  theirs = x.number.0

  all_is : length theirs ≡ e.number
  unfolding theirs
  all_is = x.number.1

  exactly : (p : Position × ℕ) → (IsPairInto r e.tier e.lo e.hi p.0 p.1 × StandsBefore r e.phase e.level p.0 → Contains theirs p)
      × (Contains theirs p → IsPairInto r e.tier e.lo e.hi p.0 p.1 × StandsBefore r e.phase e.level p.0)
  unfolding theirs
  exactly p = ((x.number.2.each p).0, (x.number.2.each p).1)

  all_once : HasNoRepeats theirs
  unfolding theirs
  all_once = no_repeats_from x.number.0 x.number.2.once

  ours_is : length ours ≡ pairs_in s
  unfolding ours
  ours_is = length-pairs s.lo s.delivered

  ours_once : HasNoRepeats ours
  unfolding ours
  ours_once = no_repeats_pairs s.lo s.delivered (λ j l. subst (λ (k : ℕ). AreAscending (get_or s.delivered k [])) (let z : s.lo + j - s.lo ≡ j = omega arith in
      z) (t.once (s.lo + j) (omega arith, omega arith)))

  ours_in : (p : Position × ℕ) → Contains ours p → IsInRange s p.1 × Contains (delivered_to s p.1) p.0
  unfolding ours
  ours_in p h =
      let (j, k, l, q) = pair_from s.lo s.delivered p h in
      let z : j ≡ p.1 - s.lo = omega arith in
      ((omega arith, omega arith), subst (λ (i : ℕ). Contains (get_or s.delivered i []) p.0) z q)

  in_ours : (i : ℕ) (c : Position) → IsInRange s i → Contains (delivered_to s i) c → Contains ours (c, i)
  unfolding ours
  in_ours i c m h =
      let a = m.0 in
      let b = m.1 in
      let z : s.lo + (i - s.lo) ≡ i = omega arith in
      subst (λ (k : ℕ). Contains (pairs_from s.lo s.delivered) (c, k)) z (pair_there s.lo s.delivered (i - s.lo) c (omega arith) h)

  put : (i : ℕ) (c : Position) → IsInRange s i → IsParent r c s.tier i → StandsBefore r s.phase (s.level + 1) c → Contains theirs (c, i)
  put i c m p b =
      let a = m.0 in
      let d = m.1 in
      let lo' = f.lo in
      let hi' = f.hi in
      (exactly (c, i)).0 (
        record { low = omega arith; high = omega arith; is_parent = subst (λ (u : ℕ). IsParent r c u i) (sym f.tier) p },
        from_here r s.tier (place_of s) e.phase e.level c follows b,
      )

  got : (p : Position × ℕ) → Contains theirs p → IsInRange s p.1 × IsParent r p.0 s.tier p.1 × StandsBefore r s.phase (s.level + 1) p.0
  got p h =
      let k = (exactly p).1 h in
      let parent : IsParent r p.0 s.tier p.1 = subst (λ (u : ℕ). IsParent r p.0 u p.1) f.tier k.0.is_parent in
      let a = k.0.low in
      let b = k.0.high in
      let lo' = f.lo in
      let hi' = f.hi in
      ((omega arith, omega arith), parent, to_here r s.tier (place_of s) e.phase e.level p.0 follows (near_of_pair r g s.tier p.1 p.0 parent) k.1)

  within : (p : Position × ℕ) → Contains ours p → Contains theirs p
  within p h =
      let k = ours_in p h in
      let q = t.pairs p.1 p.0 k.0 k.1 in
      put p.1 p.0 k.0 q.0 q.1

  -- as many as there are: all of them
  pub whole_from : e.number ≤ pairs_in s → IsWhole r s
  whole_from l i c m p b =
      let a = all_is in
      let o = ours_is in
      let h : Contains ours (c, i) = all_there ours theirs ours_once within (omega arith) (c, i) (put i c m p b) in
      (ours_in (c, i) h).1

  -- fewer: one is not there
  pub not_whole : pairs_in s < e.number → IsWhole r s → ⊥
  not_whole l w =
      let a = all_is in
      let o = ours_is in
      let k = no_longer theirs ours all_once (λ p h. (let q = got p h in in_ours p.1 p.0 q.0 (w p.1 p.0 q.0 q.1 q.2))) in
      omega arith

-- where as many pairs are there as the count says, a close is not short
pub closes_reached : (r : Rules) (e : ExpectedData) (s t : ShardState) (answer : Result (Unit {0}) Short) → Closes r e s t answer
    → e.number ≤ pairs_in s → IsOk answer
closes_reached r e s t (Ok done) h l = refl
closes_reached r e s t (Err short) h l = absurd (let a = h.2 in let b = h.3 in let c = h.4 in omega arith)
