use Rattle.gm_pieces.specs.Common.{arith}
use Rattle.gm_squares.specs.laws.HoundFacts.{some_below, below_counted, few_below}
use Rattle.gm_squares.proofs.hounds.free_below.Goals as goal

pub nonzero_rem-result : goal.nonzero_rem-result
nonzero_rem-result c = some_below c.args.fox c.requires

pub overflow_sub-result : goal.overflow_sub-result
overflow_sub-result c =
    let e = below_counted c.args.hounds c.args.fox c.requires in let f = few_below c.args.hounds c.args.fox in omega (arith, e, f)

pub returns-clause-number : goal.returns-clause-number
returns-clause-number c =
    let e = below_counted c.args.hounds c.args.fox c.requires in let f = few_below c.args.hounds c.args.fox in omega (arith, e, f)
