use Rattle.gm_frontier.proofs.Lower.{IfOk-from_err}
use Rattle.gm_frontier.proofs.part.push_part.Goals as goal

pub returns-in_err-push : goal.returns-in_err-push
returns-in_err-push g c = IfOk-from_err c.from_residual.result _ c.from_residual.ensures.0
