use Rattle.std.proofs.lemmas.Result.{IfOk-weaker}
use Rattle.gamesman.proofs.explore.moves_for.Goals as goal

pub returns-in_ok-moves_json : goal.returns-in_ok-moves_json
returns-in_ok-moves_json g c =
    rw c.if-json.true (IfOk-weaker c.ended.result _ _ (λ v e. (c.in_ok-moves_json.field-0.items, c.in_ok-moves_json.ensures, e)) c.ended.ensures)
