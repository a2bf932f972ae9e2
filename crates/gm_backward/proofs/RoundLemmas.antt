-- A walk of the pairs of a level into a range, and shards to which none of the place is delivered.
use Rattle.gm_backward.proofs.Lower.{◌≡◌, ℕ, zero, suc, ◌+◌, ◌-◌, ◌<◌, ◌≤◌, List, [], ◌∷◌, length, drop, replicate, slice_get, refl, sym, ap, subst, ◌∙◌, arith, Some, Contains, TIER_SIZE, Position, Phase, WinLose, Ties, Place, Rules, at, IsGame, StandsBefore, NoteData, IsLevel, Cuts, tile_at, ShardState, IsGood, Spot, spot_of, pairs_into, HasNoneHere}
use Rattle.std.proofs.Common.{slice_index_or, ◌^◌}
use Rattle.std.proofs.lemmas.List.{length-drop}
use Rattle.gm_counters.specs.inner.Begin.{first_state}
use Rattle.gm_locks.specs.Rounds.{place_of_spot}
use Rattle.gm_frontier.proofs.PairLemmas.{positions_once, canonical_notes}
use Rattle.gm_frontier.proofs.CountLemmas.{notes_few}
use Rattle.gm_frontier.proofs.ForGame.{not_before_and_at, ties_after}
use Rattle.gm_counters.specs.Steps.{at_next_level, first_ties}

-- the pairs of a level into a spot's range
module _ (r : Rules) (g : IsGame r) (spot : Spot) (notes : List NoteData) (level : IsLevel r (place_of_spot spot) notes) where
  -- they are few
  pub into_fit : r.tier_size spot.tier ≤ TIER_SIZE → length (pairs_into r spot notes) < 2 ^ 64
  into_fit small = (let few = notes_few r g spot.tier spot.lo spot.hi notes (positions_once r g (place_of_spot spot) notes level)
      (canonical_notes r g (place_of_spot spot) notes level) in omega arith)

-- a walk through a list: what is left after k items
pub item_next : {X : Type 0} (xs : List X) (k : ℕ) (x : X) (rest : List X) → drop k xs ≡ x ∷ rest → (slice_get xs k ≡ Some x) × (drop (suc k) xs ≡ rest)
item_next [] zero x rest e = absurd (cc)
item_next [] (suc k) x rest e = absurd (cc)
item_next (y ∷ ys) zero x rest e = (let first : y ≡ x = cc in ap Some first, cc)
item_next (y ∷ ys) (suc k) x rest e = item_next ys k x rest e

pub item_last : {X : Type 0} (xs : List X) (k : ℕ) → drop k xs ≡ [] → length xs ≤ k
item_last xs k e = (let a = length-drop k xs in let b = ap length e in omega arith)

-- none is delivered at the start, at the next level, and at the first level of ties
pub none_first : (r : Rules) (tier lo n : ℕ) → HasNoneHere r (first_state tier lo n)
none_first r tier lo n i c m h stands = no_child (subst (λ (ds : List Position). Contains ds c) (empty_at n (i - lo)) h)
  where
    empty_at : (n k : ℕ) → slice_index_or (replicate n (let e : List Position = [] in e)) k [] ≡ []
    empty_at zero k = refl
    empty_at (suc n) zero = refl
    empty_at (suc n) (suc k) = empty_at n k

    no_child : Contains [] c → ⊥
    no_child (j, l, q) = absurd (omega arith)

pub none_next : (r : Rules) (s : ShardState) → IsGood r s → HasNoneHere r (at_next_level s)
none_next r s good i c m h stands = not_before_and_at r s.phase (s.level + 1) c (good.pairs i c m h).1 stands

pub none_ties : (r : Rules) (s : ShardState) → IsGood r s → s.phase ≡ WinLose → HasNoneHere r (first_ties s)
none_ties r s good wins i c m h stands = not_before_and_at r Ties 0 c
    (ties_after r (s.level + 1) 0 c (subst (λ (ph : Phase). StandsBefore r ph (s.level + 1) c) wins (good.pairs i c m h).1)) stands

pub turned_none : (r : Rules) (s t : ShardState) (place : Place) (cuts : Cuts) (k : ℕ) → t ≡ first_ties s → IsGood r s → spot_of s ≡ tile_at r place cuts k
    → place.phase ≡ WinLose → HasNoneHere r t
turned_none r s t place cuts k is good at wins = subst (HasNoneHere r) (sym is) (none_ties r s good (ap (λ (x : Spot). x.phase) at ∙ wins))
