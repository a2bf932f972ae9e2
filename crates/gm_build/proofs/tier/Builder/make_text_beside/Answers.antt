use Rattle.std.proofs.lemmas.Result.{IfOk-at_ok}
use Rattle.gm_build.proofs.Lower.{IsStepWork, Solved}
use Rattle.gm_build.proofs.tier.Builder.make_text_beside.Goals.{in-Ok, in-Err}
use Rattle.gm_build.proofs.tier.Builder.make_text_beside.Goals as goal

pub returns-clause-ahead : goal.returns-clause-ahead
returns-clause-ahead g c =
    elim c.match-answer.branch [
      | in-Ok w ↦ rw w.done-is (IfOk-at_ok (λ s. IsStepWork g.G.Game.rules s.0.tier (Solved s.1)) w.in-Ok.is c.join-text.ensures.second)
      | in-Err w ↦ rw w.done-is tt
    ]
