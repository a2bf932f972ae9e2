use Rattle.std.proofs.lemmas.Result.{IfOk-from_err}
use Rattle.gm_backward.proofs.crew.slots_of.Goals as goal

pub returns-in_err-push-clause-parts : goal.returns-in_err-push-clause-parts
returns-in_err-push-clause-parts g c = IfOk-from_err c.from_residual.result _ c.from_residual.ensures.0

pub returns-in_err-push-clause-each : goal.returns-in_err-push-clause-each
returns-in_err-push-clause-each g c = IfOk-from_err c.from_residual.result _ c.from_residual.ensures.0
