use Rattle.gamesman.proofs.Lower.{err_from_is_err_and}
use Rattle.gamesman.proofs.output.put_all.Goals as goal

pub returns-in_err-put : goal.returns-in_err-put
returns-in_err-put g c =
    let p = err_from_is_err_and c.from_residual.result c.from_residual.ensures.1 in
    rw (p.1, p.2) (c.in_err-put.ensures.fault, c.in_err-put.ensures.err)
