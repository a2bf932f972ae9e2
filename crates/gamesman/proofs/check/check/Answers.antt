use Rattle.gamesman.proofs.Lower.{inl, err_from_is_err_and}
use Rattle.gamesman.proofs.Cut.{kept}
use Rattle.gamesman.proofs.check.check.Goals as goal

pub returns-in-Err : goal.returns-in-Err
returns-in-Err g c = inl (c.in-Err.ensures.unbuilt, kept (g.O.Write.contents c.args.output.now))

pub returns-in_err-teller : goal.returns-in_err-teller
returns-in_err-teller g c =
    let q = err_from_is_err_and c.from_residual.result c.from_residual.ensures.1 in
    rw (q.1, q.2) (inl (tt, kept (g.O.Write.contents c.args.output.now)))
