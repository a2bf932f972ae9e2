use Rattle.gamesman.proofs.Lower.{ℕ, List, ◌++◌, ap, ◌∙◌}
use Rattle.std.proofs.Common.{codes}
use Rattle.std.proofs.lemmas.Result.{IfOk-weaker}
use Rattle.gamesman.proofs.located.text_of.Goals as goal

pub returns-in_ok-located_json : goal.returns-in_ok-located_json
returns-in_ok-located_json g c =
    rw c.if-json.true (IfOk-weaker c.ended.result _ _ (λ v e. e ∙ ap (λ (t : List ℕ). t ++ codes "\n") c.in_ok-located_json.ensures) c.ended.ensures)
