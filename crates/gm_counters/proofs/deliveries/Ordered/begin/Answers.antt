use Rattle.gm_counters.proofs.Lower.{IfOk-from_err, [], refl}
use Rattle.gm_counters.proofs.OrderedLemmas.{first_fields, first_by}
use Rattle.gm_counters.proofs.deliveries.Ordered.begin.Goals as goal

pub invariant_of-result : goal.invariant_of-result
invariant_of-result g c =
    first_fields g.G.Game.rules c.args.tier c.args.lo c.args.starts.now c.requires.starts c.requires.within c.in_ok-left.left.items
    c.in_ok-statuses.statuses [] c.in_ok-left.ensures c.in_ok-statuses.ensures refl

pub returns : goal.returns
returns g c = first_by c.args.tier c.args.lo c.args.starts.now c.in_ok-left.left.items [] c.in_ok-left.ensures refl

pub returns-in_err-left : goal.returns-in_err-left
returns-in_err-left g c = IfOk-from_err c.from_residual.result _ c.from_residual.ensures.0

pub returns-in_err-statuses : goal.returns-in_err-statuses
returns-in_err-statuses g c = IfOk-from_err c.from_residual-in_err-statuses.result _ c.from_residual-in_err-statuses.ensures.0
