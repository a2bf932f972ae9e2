use Rattle.gm_counters.proofs.Lower.{◌≡◌, ℕ, ◌+◌, ◌-◌, ◌<◌, length, sym, subst, ◌∙◌, true≢false, arith, StatusIs, IsQueue}
use Rattle.gm_counters.proofs.FillLemmas.{IsFilled, filled_none, filled_few, filled_holes, filled_more, filled_past, filled_all}
use Rattle.gm_counters.proofs.ordered.ended.Goals.{then-has_phase, else-has_phase}
use Rattle.gm_counters.proofs.ordered.ended.Goals as goal

pub loop-index-init : goal.loop-index-init
loop-index-init g c =
    let r = g.G.Game.rules in
    let s = c.args.children.now in
    let (indexes, from, to, room) = c.in_ok-queue.ensures in
    let lo = c.range-lo.ensures.lo in
    let count = c.range-lo.ensures.count in
    let next = c.skip_holes-index in
    let low = next.ensures.low in
    let high = next.ensures.high in (
      omega arith,
      omega arith,
      filled_holes r s c.args.phase 0 (next.result - c.range-lo.result.0) c.in_ok-queue.queue (omega arith)
          (λ i a b. next.ensures.holes i (omega arith) (omega arith))
          (filled_none r s c.args.phase c.in_ok-queue.queue indexes from to (omega arith)),
    )

pub push-requires : goal.push-requires
push-requires g c =
    let count = c.range-lo.ensures.count in
    let (low, high, filled) = c.loop-index.invariant in
    filled_few g.G.Game.rules c.args.children.now c.args.phase (c.loop-index.index - c.range-lo.result.0) c.loop-index.queue filled (omega arith)

pub loop-index-preserved : goal.loop-index-preserved
loop-index-preserved g c =
    let r = g.G.Game.rules in
    let s = c.args.children.now in
    let lo = c.range-lo.ensures.lo in
    let count = c.range-lo.ensures.count in
    let good = c.range-lo.ensures.good in
    let l = c.loop-index in
    let n = l.index - c.range-lo.result.0 in
    let (from, to, filled) = l.invariant in
    let within : n < length s.delivered = omega arith in
    let place : l.index ≡ s.lo + n = omega arith in
    let is : StatusIs r s (s.lo + n) c.status.result = subst (λ (i : ℕ). StatusIs r s i c.status.result) place c.status.ensures in
    let one : IsFilled r s c.args.phase (n + 1) c.if-has_phase.queue = elim c.if-has_phase.branch [
      | then-has_phase w ↦ subst (IsFilled r s c.args.phase (n + 1)) (sym w.queue-is)
          (filled_more r s good c.args.phase n within l.queue filled c.status.result is (c.has_phase.ensures.0 w.if-has_phase.true)
          w.push.new.self w.push.ensures.items w.push.ensures.from w.push.ensures.to w.push.ensures.room)
      | else-has_phase w ↦ subst (IsFilled r s c.args.phase (n + 1)) (sym w.queue-is)
          (filled_past r s good c.args.phase n within l.queue filled c.status.result is
          (λ h. true≢false (sym (c.has_phase.ensures.1 h) ∙ w.if-has_phase.false)))
    ] in
    let next = c.skip_holes-index-in-loop-index in
    let low = next.ensures.low in
    let high = next.ensures.high in (
      omega arith,
      omega arith,
      filled_holes r s c.args.phase (n + 1) (next.result - c.range-lo.result.0) c.if-has_phase.queue (omega arith)
          (λ i a b. next.ensures.holes i (omega arith) (omega arith)) one,
    )

pub returns : goal.returns
returns g c =
    let r = g.G.Game.rules in
    let count = c.range-lo.ensures.count in
    let (from, to, filled) = c.loop-index.invariant in
    let n = c.loop-index.index - c.range-lo.result.0 in
    let all : n ≡ length c.args.children.now.delivered = omega arith in
    subst (IsQueue r c.args.children.now c.args.phase 0) (sym c.advance.ensures)
    (filled_all r c.args.children.now c.args.phase n c.loop-index.queue c.requires all filled)
