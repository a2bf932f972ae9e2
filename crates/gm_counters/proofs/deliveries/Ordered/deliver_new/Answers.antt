use Rattle.gm_counters.proofs.Lower.{◌≡◌, ◌==◌, ◌<◌, ◌≤◌, ℕ, Bool, ap, subst, sym, ◌∙◌, true≢false, next_status, ShardState, REMOTENESS}
use Rattle.gm_counters.specs.Delivery.{is_settling}
use Rattle.gm_counters.proofs.StepLemmas.{Step, room_above, next_is, settling_is, next_after, can_settle, can_stay, out_fresh, out_settled, out_far}
use Rattle.gm_counters.proofs.OrderedLemmas.{step_new}
use Rattle.gm_counters.proofs.deliveries.Ordered.deliver_new.Given.{Over}
use Rattle.gm_counters.proofs.deliveries.Ordered.deliver_new.Goals.{After-is_settling-settles, then-settles+else-self-ge-REMOTENESS, else-settles}
use Rattle.gm_counters.proofs.deliveries.Ordered.deliver_new.Goals as goal

-- what is found of a new pair
step : (g : Over) (c : After-is_settling-settles g) → Step g.G.Game.rules c.args.self.now c.self.inside.rows.statuses c.args.note.now c.args.parent
    c.status-old.result (c.counter-left.result == 1)
step g c =
    step_new c.counter-left.result c.self.invariant c.self.view_is c.solved-solved.ensures.note c.requires.here c.requires.new c.status-old.ensures
    c.counter-left.ensures

next : (g : Over) (c : After-is_settling-settles g)
    → c.next_status-next.result ≡ next_status c.status-old.result c.args.note.now.solved (c.counter-left.result == 1)
next g c = next_is c.status-old.result c.next_status-next.result c.solved-solved.result c.args.note.now.solved (c.counter-left.result == 1)
    c.next_status-next.ensures c.solved-solved.ensures.value

-- the test says whether the pair settles the parent
settles : (g : Over) (c : After-is_settling-settles g) {v : Bool} → c.is_settling-settles.result ≡ v
    → is_settling c.status-old.result (next_status c.status-old.result c.args.note.now.solved (c.counter-left.result == 1)) ≡ v
settles g c is = settling_is c.status-old.result c.next_status-next.result c.args.note.now.solved (c.counter-left.result == 1) c.is_settling-settles.result
    (next g c) c.is_settling-settles.ensures is

-- the level is the one that the code reads
below : (g : Over) (c : After-is_settling-settles g) → c.self.inside.level < REMOTENESS → c.args.self.now.level < REMOTENESS
below g c = subst (λ (n : ℕ). n < REMOTENESS) (ap (λ (s : ShardState). s.level) c.self.view_is)

pub returns-then-self-ge-REMOTENESS : goal.returns-then-self-ge-REMOTENESS
returns-then-self-ge-REMOTENESS g c =
    let c' = (goal.at.returns-then-self-ge-REMOTENESS g c).After-is_settling-settles in
    out_far (step g c') (settles g c' c.if-settles.true)
    (subst (λ (n : ℕ). REMOTENESS ≤ n) (ap (λ (s : ShardState). s.level) c.self.view_is) c.if-self-ge-REMOTENESS.true)

pub add_pair-requires-clause-can : goal.add_pair-requires-clause-can
add_pair-requires-clause-can g c =
    let c' = (goal.at.add_pair-requires-clause-can g c).After-is_settling-settles in
    elim c.if-settles.branch [
      | then-settles+else-self-ge-REMOTENESS w ↦ can_settle (step g c') g.met.G.Game.lawful (settles g c' w.if-settles.true)
          (below g c' w.if-self-ge-REMOTENESS.false)
      | else-settles w ↦ can_stay (step g c') g.met.G.Game.lawful (settles g c' w.if-settles.false)
    ]

pub add_pair-requires-clause-next : goal.add_pair-requires-clause-next
add_pair-requires-clause-next g c =
    let c' = (goal.at.add_pair-requires-clause-next g c).After-is_settling-settles in next_after (step g c') c.next_status-next.result (next g c')

pub returns-then-settles-2 : goal.returns-then-settles-2
returns-then-settles-2 g c =
    let c' = (goal.at.returns-then-settles-2 g c).After-is_settling-settles in
    elim c.if-settles.branch [
      | then-settles+else-self-ge-REMOTENESS w ↦ out_settled (step g c') c.add_pair.new.self c.add_pair.ensures (settles g c' c.if-settles-2.true)
          (below g c' w.if-self-ge-REMOTENESS.false)
      | else-settles w ↦ absurd (true≢false (sym c.if-settles-2.true ∙ w.if-settles.false))
    ]

pub returns : goal.returns
returns g c =
    let c' = (goal.at.returns g c).After-is_settling-settles in
    out_fresh (step g c') c.add_pair.new.self c.add_pair.ensures (settles g c' c.if-settles-2.false)

pub status-old-requires : goal.status-old-requires
status-old-requires g c = c.requires.here.is_mine

pub counter-left-requires : goal.counter-left-requires
counter-left-requires g c = c.requires.here.is_mine

pub next_status-next-requires : goal.next_status-next-requires
next_status-next-requires g c = room_above c.self.invariant c.self.view_is c.solved-solved.ensures.value c.requires.here.is_level.1
