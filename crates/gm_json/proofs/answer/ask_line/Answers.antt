use Rattle.gm_json.proofs.Lower.{◌≡◌, List, ℕ, Some, refl, sym, subst, inl, inr}
use Rattle.std.proofs.lemmas.Result.{IfOk-weaker}
use Rattle.gm_play.specs.Refusals.{IsNotHeld}
use Rattle.gm_json.specs.Answers.{IsAskedWithin}
use Rattle.gm_json.specs.Places.{IsAskedAs}
use Rattle.gm_json.proofs.Answering.{answered, unanswered, asked_legal}
use Rattle.gm_json.proofs.answer.ask_line.Goals as goal

pub position_answer-requires : goal.position_answer-requires
position_answer-requires g c =
    record { legal = asked_legal g.G.Game.rules g.G.Shown.shown g.G.Shown.move_shown _ c.in-Some.p ((c.in-Some.ensures c.in-Some.p).0 refl) }

pub returns-in-Some-clause-answer : goal.returns-in-Some-clause-answer
returns-in-Some-clause-answer g c =
    IfOk-weaker c.position_answer.result _ _ (λ v json. answered g.G.Game.rules g.G.Shown.shown g.G.Shown.move_shown c.args.asked c.args.tiers.now
    c.args.line.now c.args.number _ v.items c.without_return-text.ensures c.in-Some.p c.in-Some.p ((c.in-Some.ensures c.in-Some.p).0 refl) refl json)
    c.position_answer.ensures.answer

pub returns-in-Some-clause-not_held : goal.returns-in-Some-clause-not_held
returns-in-Some-clause-not_held g c e = (
  c.in-Some.p,
  inl (subst (λ (t : List ℕ). IsAskedAs g.G.Game.rules g.G.Shown.shown g.G.Shown.move_shown t c.in-Some.p) c.without_return-text.ensures
      ((c.in-Some.ensures c.in-Some.p).0 refl)),
  c.position_answer.ensures.not_held.0 e,
)

pub returns-in-Some-clause-unheld : goal.returns-in-Some-clause-unheld
returns-in-Some-clause-unheld g c p is held =
    let some : Some c.in-Some.p ≡ Some p = (c.in-Some.ensures p).1
    (subst (λ (t : List ℕ). IsAskedAs g.G.Game.rules g.G.Shown.shown g.G.Shown.move_shown t p) (sym c.without_return-text.ensures) is) in
    let same : p ≡ c.in-Some.p = cc in
    c.position_answer.ensures.not_held.1 (subst (IsNotHeld g.G.Game.rules c.args.tables.now.tables.now) same held)

pub returns-in-None-clause-answer : goal.returns-in-None-clause-answer
returns-in-None-clause-answer g c =
    IfOk-weaker c.other_answer.result _ _ (λ v other. unanswered g.G.Game.rules g.G.Shown.shown g.G.Shown.move_shown c.args.asked c.args.tiers.now
    c.args.line.now c.args.number _ v.items c.without_return-text.ensures c.in-None.ensures other) c.other_answer.ensures.answer

pub returns-in-None-clause-not_held : goal.returns-in-None-clause-not_held
returns-in-None-clause-not_held g c e =
    let (p, within, held) = c.other_answer.ensures.not_held e in (
      p,
      inr (subst (λ (t : List ℕ). IsAskedWithin g.G.Game.rules g.G.Shown.shown g.G.Shown.move_shown t p) c.without_return-text.ensures within),
      held,
    )

pub returns-in-None-clause-unheld : goal.returns-in-None-clause-unheld
returns-in-None-clause-unheld g c p is held =
    let some : _ = (c.in-None.ensures p).1
    (subst (λ (t : List ℕ). IsAskedAs g.G.Game.rules g.G.Shown.shown g.G.Shown.move_shown t p) (sym c.without_return-text.ensures) is) in
    absurd (let z : ⊥ = cc in z)
