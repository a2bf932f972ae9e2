-- How a shard's two queues follow its state.
use Rattle.gm_counters.proofs.Lower.{◌≡◌, ℕ, ◌+◌, ◌-◌, ◌<◌, ◌≤◌, [], ◌∷◌, ◌++◌, length, refl, sym, subst, ◌∙◌, Ok, Err, WinLose, Ties, Rules, NoteData, Fresh, FreshSettled, TooFar, ShardState, with_pair, IsGood, Delivers, IsSettledNow, KeepsStatus, at_next_level, first_ties, QueueData, IsQueue}
use Rattle.std.proofs.Common.{Result}
use Rattle.gm_counters.specs.declared.status.Delivery.{Delivery}
use Rattle.gm_counters.specs.declared.status.Delivery.TheVariants.{Repeat}
use Rattle.gm_counters.specs.declared.status.Refused.{Refused}
use Rattle.gm_counters.specs.declared.status.Refused.TheVariants.{NotThisLevel, NotMine, NotAParent}
use Rattle.gm_counters.specs.inner.Queues.{AreQueues}
use Rattle.gm_counters.proofs.QueueLemmas.{queue_kept, queue_other, queue_room, queue_pushed, queue_closed, queue_moved}

-- a delivery that settles nothing keeps both queues
pub quiet : (r : Rules) (note : NoteData) (parent : ℕ) (s t : ShardState) (answer : Result Delivery Refused) → Delivers r note parent s t answer
    → (answer ≡ Ok FreshSettled → ⊥) → IsGood r s → IsGood r t → (q ties : QueueData) → AreQueues r s q ties → AreQueues r t q ties
quiet r note parent s t (Err NotThisLevel) d n a b q ties x = subst (λ (u : ShardState). AreQueues r u q ties) (sym d.0) x
quiet r note parent s t (Err NotMine) d n a b q ties x = subst (λ (u : ShardState). AreQueues r u q ties) (sym d.0) x
quiet r note parent s t (Err NotAParent) d n a b q ties x = subst (λ (u : ShardState). AreQueues r u q ties) (sym d.0) x
quiet r note parent s t (Err TooFar) d n a b q ties x = subst (λ (u : ShardState). AreQueues r u q ties) (sym d.0) x
quiet r note parent s t (Ok Repeat) d n a b q ties x = subst (λ (u : ShardState). AreQueues r u q ties) (sym d.0) x
quiet r note parent s t (Ok FreshSettled) d n a b q ties x = absurd (n refl)
quiet r note parent s t (Ok Fresh) d n a b q ties x =
    let after = subst (IsGood r) d.0 b in
    let kept = subst (λ (u : ShardState). KeepsStatus r s u parent) d.0 d.3 in
    subst (λ (u : ShardState). AreQueues r u q ties) (sym d.0) (
      queue_kept r s note.position parent d.1.is_mine a after kept s.phase s.level q x.0,
      λ e. queue_kept r s note.position parent d.1.is_mine a after kept Ties 0 ties (x.1 e),
    )

-- a delivery that settles its parent adds it to the queue of the phase
module _ (r : Rules) (note : NoteData) (parent : ℕ) (s t : ShardState) (answer : Result Delivery Refused) (d : Delivers r note parent s t answer)
    (settles : answer ≡ Ok FreshSettled) (a : IsGood r s) (b : IsGood r t) (q ties : QueueData) (x : AreQueues r s q ties) where
  done : Delivers r note parent s t (Ok FreshSettled)
  done = subst (λ (y : Result Delivery Refused). Delivers r note parent s t y) settles d

  settled : IsSettledNow r s (with_pair s note.position parent) parent
  settled = subst (λ (u : ShardState). IsSettledNow r s u parent) done.0 done.3

  after : IsGood r (with_pair s note.position parent)
  after = subst (IsGood r) done.0 b

  pub room_there : length q.indexes < q.room
  room_there = queue_room r s note.position parent done.1.is_mine a after settled s.phase s.level q x.0

  pub pushed : (p : QueueData) → p.indexes ≡ q.indexes ++ (parent - s.lo) ∷ [] → p.from ≡ q.from → p.to ≡ q.to → q.room ≤ p.room → AreQueues r t p ties
  pushed p is from to room = subst (λ (u : ShardState). AreQueues r u p ties) (sym done.0) (
    queue_pushed r s note.position parent done.1.is_mine a after settled q p x.0 is from to room,
    λ e. queue_other r s note.position parent done.1.is_mine a after settled Ties 0 ties (λ z. (let k : WinLose ≡ Ties = sym e ∙ z in cc)) (x.1 e),
  )

-- a level is closed
pub closed : (r : Rules) (s t : ShardState) (q p ties : QueueData) → t ≡ at_next_level s → AreQueues r s q ties
    → p ≡ record q { from = q.to; to = length q.indexes } → AreQueues r t p ties
closed r s t q p ties e x is = subst (λ (u : ShardState). AreQueues r u p ties) (sym e) (
  subst (IsQueue r (at_next_level s) s.phase (s.level + 1)) (sym is)
      (queue_moved r s s.phase (s.level + 1) s.phase (s.level + 1) (record q { from = q.to; to = length q.indexes }) (queue_closed r s s.phase s.level q x.0)),
  λ w. queue_moved r s s.phase (s.level + 1) Ties 0 ties (x.1 w),
)

-- ties begin
pub turned : (r : Rules) (s t : ShardState) (q ties p o : QueueData) → t ≡ first_ties s → s.phase ≡ WinLose → AreQueues r s q ties → p ≡ ties
    → AreQueues r t p o
turned r s t q ties p o e f x is = subst (λ (u : ShardState). AreQueues r u p o) (sym e)
    (subst (IsQueue r (first_ties s) Ties 0) (sym is) (queue_moved r s Ties 0 Ties 0 ties (x.1 f)), λ w. absurd (cc))
