use Rattle.gm_shard.proofs.Lower.{ℕ, ◌+◌, drop, sym, subst, arith}
use Rattle.gm_shard.proofs.RunLemmas.{Leads, leads_changed, leads_skipped, all_events, one_more_good}
use Rattle.gm_shard.proofs.replay.replay.Goals.{then-apply, else-apply}
use Rattle.gm_shard.proofs.replay.replay.Goals as goal

pub loop-event-preserved : goal.loop-event-preserved
loop-event-preserved g c =
    let r = g.G.Game.rules in
    let es = c.args.events.now in
    let i = c.loop-event.event-index in
    let l = c.loop-event-test.true in
    let (old, few) = c.loop-event.invariant in
    elim c.if-apply.branch [
      | then-apply w ↦ (
        subst (λ (n : ℕ). Leads r c.args.shards.now es c.apply.new.shards (drop (i + 1) es) n) (sym w.applied-is)
            (leads_changed r c.args.shards.now es c.loop-event.shards c.apply.new.shards i c.event-item.result c.loop-event.applied l c.event-item.is old
            w.if-apply.ensures),
        omega (arith, w.applied-is),
      )
      | else-apply w ↦ (
        subst (λ (n : ℕ). Leads r c.args.shards.now es c.apply.new.shards (drop (i + 1) es) n) (sym w.applied-is)
            (leads_skipped r c.args.shards.now es c.loop-event.shards c.apply.new.shards i c.event-item.result c.loop-event.applied l c.event-item.is old
            w.if-apply.ensures),
        omega (arith, w.applied-is),
      )
    ]

pub loop-shard-preserved : goal.loop-shard-preserved
loop-shard-preserved g c =
    one_more_good g.G.Game.rules c.loop-event.shards c.loop-shard.shard-index c.shard-item.result c.loop-shard-test.true c.shard-item.is
    c.range-good.ensures.good c.loop-shard.invariant

pub returns-clause-run : goal.returns-clause-run
returns-clause-run g c =
    all_events g.G.Game.rules c.args.shards.now c.args.events.now c.loop-event.shards c.loop-event.event-index c.loop-event.applied c.loop-event-test.false
    c.loop-event.invariant.0
