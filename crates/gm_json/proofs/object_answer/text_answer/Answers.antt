use Rattle.gm_json.proofs.Lower.{refl}
use Rattle.std.proofs.lemmas.Result.{IfOk-weaker}
use Rattle.gm_json.proofs.Answering.{asked_legal}
use Rattle.gm_json.proofs.Objects.{text_answered, text_unanswered}
use Rattle.gm_json.proofs.object_answer.text_answer.Goals as goal

pub position_answer-requires : goal.position_answer-requires
position_answer-requires g c =
    record { legal = asked_legal g.G.Game.rules g.G.Shown.shown g.G.Shown.move_shown _ c.in-Some.p ((c.in-Some.ensures c.in-Some.p).0 refl) }

pub returns-in-Some-clause-answer : goal.returns-in-Some-clause-answer
returns-in-Some-clause-answer g c =
    IfOk-weaker c.position_answer.result _ _ (λ v json. text_answered g.G.Game.rules g.G.Shown.shown g.G.Shown.move_shown c.args.asked c.args.tiers.now
    c.args.text.now v.items c.args.number c.in-Some.p ((c.in-Some.ensures c.in-Some.p).0 refl) json) c.position_answer.ensures.answer

pub returns-in-Some-clause-not_held : goal.returns-in-Some-clause-not_held
returns-in-Some-clause-not_held g c e = (c.in-Some.p, (c.in-Some.ensures c.in-Some.p).0 refl, c.position_answer.ensures.not_held.0 e)

pub returns-in-None-clause-answer : goal.returns-in-None-clause-answer
returns-in-None-clause-answer g c =
    IfOk-weaker c.no_position.result _ _ (λ v e. text_unanswered g.G.Game.rules g.G.Shown.shown g.G.Shown.move_shown c.args.asked c.args.tiers.now
    c.args.text.now v.items c.args.number c.in-None.ensures e) c.no_position.ensures.answer
