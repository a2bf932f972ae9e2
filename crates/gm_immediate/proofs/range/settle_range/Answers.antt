use Rattle.gm_immediate.proofs.Lower.{Some, ◌∙◌, arith}
use Rattle.gm_immediate.proofs.Parts.{passed_none, passed_more, passed_holes}
use Rattle.gm_immediate.proofs.range.settle_range.Goals as goal

pub loop-index-init : goal.loop-index-init
loop-index-init g c = record {
  high = c.requires.order;
  cache = c.new-cache.ensures;
  passed = passed_none g.G.Game.rules c.args.tier c.args.lo c.in_ok-records.records c.in_ok-records.ensures;
}

pub loop-index-preserved : goal.loop-index-preserved
loop-index-preserved g c =
    let r = g.G.Game.rules in
    let first = c.in-Some.ensures.0 in
    let holes = passed_holes r c.args.tier c.args.lo c.loop-index.next c.in-Some.index c.loop-index.records c.push_none.new.self c.loop-index.number
    c.loop-index.invariant.passed first.0 first.2 c.in_ok-push_none.ensures.ok in
    let below = first.1 in
    record {
      high = omega arith;
      cache = c.in_ok-solved.ensures.same ∙ c.loop-index.invariant.cache;
      passed = passed_more r c.args.tier c.args.lo c.in-Some.index c.push_none.new.self c.push.new.self c.loop-index.number c.in_ok-solved.more
          (Some c.in_ok-solved.solved) holes c.in_ok-solved.ensures.record
          c.in_ok-solved.ensures.number c.in_ok-solved.ensures.few c.in_ok-push.ensures.ok;
    }

pub returns-clause-number : goal.returns-clause-number
returns-clause-number g c =
    (passed_holes g.G.Game.rules c.args.tier c.args.lo c.loop-index.next c.args.hi c.loop-index.records c.push_none-2.new.self c.loop-index.number
    c.loop-index.invariant.passed c.loop-index.invariant.high c.in_default.ensures
    c.in_ok-push_none-2.ensures.ok).deliveries
