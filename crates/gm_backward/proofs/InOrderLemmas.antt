-- A shard to which the pairs of a level are delivered in their order, each once.
use Rattle.gm_backward.proofs.Lower.{◌≡◌, ℕ, ◌+◌, ◌≤◌, List, length, slice_get, refl, sym, ap, subst, ◌∙◌, arith, Some, Contains, slice_get-get_or, Rules, IsGame, NoteData, IsLevel, ShardState, IsGood, place_of, Spot, spot_of, pairs_into, AreFirst, HasNoneHere}
use Rattle.std.proofs.Common.{Ok}
use Rattle.gm_counters.specs.State.{delivered_to}
use Rattle.gm_counters.specs.Delivery.{Delivers}
use Rattle.gm_counters.specs.Steps.{IsWhole}
use Rattle.gm_locks.specs.Spots.{IsDeliverable, IsSameSpot}
use Rattle.gm_locks.specs.Rounds.{place_of_spot}
use Rattle.gm_frontier.proofs.PairLemmas.{pairs_have}
use Rattle.gm_counters.specs.declared.status.Delivery.{Delivery}
use Rattle.gm_locks.proofs.RoundLemmas.{of_level, next_here, first_none, first_more}
use Rattle.gm_locks.proofs.Gains.{added_is, ok_added}
use Rattle.gm_locks.proofs.PieceLemmas.{whole_all}

-- the same spot, field by field
pub same_spot_from : (s t : ShardState) → spot_of t ≡ spot_of s → IsSameSpot s t
same_spot_from s t at =
    let lo = ap (λ (x : Spot). x.lo) at in
    let hi = ap (λ (x : Spot). x.hi) at in
    record { tier = ap (λ (x : Spot). x.tier) at; lo = lo; size = omega arith; phase = ap (λ (x : Spot). x.phase) at; level = ap (λ (x : Spot). x.level) at }

module _ (r : Rules) (g : IsGame r) (s : ShardState) (notes : List NoteData) (level : IsLevel r (place_of s) notes) where
  -- none of the pairs is delivered to a shard that has none of the place
  pub none_yet : HasNoneHere r s → AreFirst (pairs_into r (spot_of s) notes) s 0
  none_yet none = first_none r g (spot_of s) notes (of_level r g (spot_of s) notes level) s refl none

  -- the next pair is one for the shard
  pub next_of : (t : ShardState) → spot_of t ≡ spot_of s → (n : ℕ) (pair : NoteData × ℕ) → slice_get (pairs_into r (spot_of s) notes) n ≡ Some pair
      → IsDeliverable r t pair
  next_of t at n pair e = next_here r g (spot_of s) notes (of_level r g (spot_of s) notes level) t at n pair e

  -- it is new
  pub next_new : (t : ShardState) (n : ℕ) (pair : NoteData × ℕ) → slice_get (pairs_into r (spot_of s) notes) n ≡ Some pair
      → AreFirst (pairs_into r (spot_of s) notes) t n
      → Contains (delivered_to t pair.1) pair.0.position → ⊥
  next_new t n pair e first h = let l = (first.each n pair e).0 h in omega arith

  -- and then it is delivered
  pub next_first : (t u : ShardState) (n : ℕ) (pair : NoteData × ℕ) (answer : Delivery) → spot_of t ≡ spot_of s
      → slice_get (pairs_into r (spot_of s) notes) n ≡ Some pair → Delivers r pair.0 pair.1 t u (Ok answer)
      → AreFirst (pairs_into r (spot_of s) notes) t n → AreFirst (pairs_into r (spot_of s) notes) u (n + 1)
  next_first t u n pair answer at e d first =
      let is = added_is r pair t u (Ok answer) d (ok_added r pair t u answer (next_new t n pair e first) d) in
      subst (λ (v : ShardState). AreFirst (pairs_into r (spot_of s) notes) v (n + 1)) (sym is.0)
      (first_more r g (spot_of s) notes (of_level r g (spot_of s) notes level) t n pair at e is.1.is_mine first)

  -- if none is left the level is whole
  pub whole_at_end : (t : ShardState) (n : ℕ) → spot_of t ≡ spot_of s → IsGood r t → length (pairs_into r (spot_of s) notes) ≤ n
      → AreFirst (pairs_into r (spot_of s) notes) t n → IsWhole r t
  whole_at_end t n at good most first =
      let same = same_spot_from s t at in
      let lo = same.lo in
      let size = same.size in
      whole_all r g t notes (subst (λ (x : Spot). IsLevel r (place_of_spot x) notes) (sym at) level) good
      (λ m i among listed low high.
      (let tier = same.tier in
      let (k, w, e) = pairs_have r s.tier s.lo (s.lo + length s.delivered) notes m i among (subst (λ (u : ℕ). Contains (r.parents m.position u) i) tier listed)
      (omega arith) (omega arith) in
      let pair : NoteData × ℕ = (m, i) in
      (first.each k pair (slice_get-get_or (pairs_into r (spot_of s) notes) k pair w ∙ ap (λ (x : NoteData × ℕ). Some x) e)).1 (omega arith)))
