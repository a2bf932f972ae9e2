use Rattle.gm_counters.proofs.Lower.{IfOk-from_err, length}
use Rattle.gm_counters.proofs.FillLemmas.{first_emptied, first_queues}
use Rattle.gm_counters.proofs.ordered.OrderedShard.begin.Goals as goal

pub returns-in_err-children : goal.returns-in_err-children
returns-in_err-children g c = IfOk-from_err c.from_residual.result _ c.from_residual.ensures.0

pub returns-in_err-queue : goal.returns-in_err-queue
returns-in_err-queue g c = IfOk-from_err c.from_residual-in_err-queue.result _ c.from_residual-in_err-queue.ensures.0

pub returns-in_err-ties : goal.returns-in_err-ties
returns-in_err-ties g c = IfOk-from_err c.from_residual-in_err-ties.result _ c.from_residual-in_err-ties.ensures.0

pub ended-requires : goal.ended-requires
ended-requires g c = first_emptied c.in_ok-children.children c.args.tier c.args.lo (length c.args.starts.now) c.in_ok-children.ensures

pub ended-requires-2 : goal.ended-requires-2
ended-requires-2 g c = first_emptied c.in_ok-children.children c.args.tier c.args.lo (length c.args.starts.now) c.in_ok-children.ensures

pub invariant_of-result : goal.invariant_of-result
invariant_of-result g c =
    first_queues g.G.Game.rules c.in_ok-children.children c.args.tier c.args.lo (length c.args.starts.now)
    c.in_ok-queue.queue c.in_ok-ties.ties c.in_ok-children.ensures c.in_ok-queue.ensures c.in_ok-ties.ensures

pub returns : goal.returns
returns g c = c.in_ok-children.ensures
