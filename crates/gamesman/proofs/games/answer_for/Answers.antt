use Rattle.gamesman.proofs.Lower.{GameSpec}
use Rattle.gm_mutorere.specs.laws.RingPictured.{ring_is}
use Rattle.gamesman.specs.Answers.{IsAnsweredIn}
use Rattle.gamesman.proofs.games.answer_for.Goals as goal

pub returns-in-MuTorere-clause-answered : goal.returns-in-MuTorere-clause-answered
returns-in-MuTorere-clause-answered g c =
    rw c.in-MuTorere.is
    (ring_is (λ (s : GameSpec). IsAnsweredIn s c.args.command c.args.service.now c.answer-in-MuTorere.new.service (g.I.Read.remaining c.args.input.now)
    (g.I.Read.remaining c.answer-in-MuTorere.new.input) (g.O.Write.contents c.args.output.now) (g.O.Write.contents c.answer-in-MuTorere.new.output)
    c.answer-in-MuTorere.result) c.answer-in-MuTorere.ensures.answered)
