use Rattle.std.proofs.lemmas.Result.{IfOk-weaker}
use Rattle.gamesman.proofs.explore.value_json.Goals as goal

pub returns : goal.returns
returns g c = IfOk-weaker c.ended.result _ _ (λ v e. (c.in_ok-position_json.field-0.items, c.in_ok-position_json.ensures, e)) c.ended.ensures
