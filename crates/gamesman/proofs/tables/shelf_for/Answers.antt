use Rattle.gamesman.proofs.Lower.{Contains, OutOfMemory, IsUnbuilt}
use Rattle.gamesman.proofs.Cut.{passed}
use Rattle.gamesman.proofs.tables.shelf_for.Goals as goal

pub returns-in_err-shelf-clause-refused : goal.returns-in_err-shelf-clause-refused
returns-in_err-shelf-clause-refused g c r first order =
    passed c.from_residual.result (IsUnbuilt r first) (OutOfMemory c.in_err-shelf.field-0.0) c.from_residual.ensures.1 tt

pub returns-in_err-tier-clause-refused : goal.returns-in_err-tier-clause-refused
returns-in_err-tier-clause-refused g c r first order =
    passed c.from_residual-in_err-tier.result (IsUnbuilt r first) (OutOfMemory c.in_err-tier.field-0.0)
    c.from_residual-in_err-tier.ensures.1 tt

pub returns-in-Some-clause-refused : goal.returns-in-Some-clause-refused
returns-in-Some-clause-refused g c r first order =
    let has : Contains c.args.tiers.now c.in-Some.tier = rw c.in-Some.is at c.in_ok-tier.ensures.among in
    (order.each c.in-Some.tier).0 has
