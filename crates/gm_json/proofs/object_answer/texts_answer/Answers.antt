use Rattle.gm_json.proofs.Lower.{◌≡◌, ◌++◌, ◌∷◌, [], List, ℕ, Some, map, subst, sym, ap, ◌∙◌}
use Rattle.std.specs.Prelude.{option_map}
use Rattle.serde_json.specs.View.{view}
use Rattle.gm_json.specs.Answers.{IsTextAnswer, AreObjectAnswers}
use Rattle.gm_json.specs.Objects.{with_id}
use Rattle.gm_json.proofs.Objects.{first_text, contains_later, err_of}
use Rattle.gm_json.proofs.object_answer.texts_answer.Goals as goal

pub returns-in_err-push_more_answers-clause-not_held : goal.returns-in_err-push_more_answers-clause-not_held
returns-in_err-push_more_answers-clause-not_held g c e =
    let f = c.from_residual-in_err-push_more_answers in
    let (t, p, among, is, held) = c.in_err-push_more_answers.ensures.not_held (err_of f.result _ _ f.ensures.1 e) in
    (t, p, contains_later (λ t. t.items) c.args.texts.now c.in-Some.first.now c.in-Some.rest.now t c.in-Some.ensures.cases.0 among, is, held)

pub returns-clause-answer : goal.returns-clause-answer
returns-clause-answer g c =
    let id = option_map (λ v. view v.now) c.args.id in
    let (out, is, e) = c.in_ok-push_text_answer.ensures.answer in
    let first = c.in-Some.first.now.items in
    let told = subst (λ (t : List ℕ). IsTextAnswer g.G.Game.rules g.G.Shown.shown g.G.Shown.move_shown c.args.asked c.args.tiers.now t c.args.number out)
    c.as_slice.ensures.value is in
    let all = c.push_text_answer.new.all.items in
    let begun : all ≡ with_id id out = e ∙ ap (λ (l : List ℕ). l ++ with_id id out) c.new-all.ensures.items in
    subst (λ (ts : List _). AreObjectAnswers g.G.Game.rules g.G.Shown.shown g.G.Shown.move_shown c.args.asked c.args.tiers.now id c.args.number c.args.line.now
    (Some (map (λ t. t.items) ts)) c.push_more_answers.new.all.items) (sym c.in-Some.ensures.cases.0)
    (c.in_ok-push_more_answers.ensures.answers (first ∷ []) (first_text g.G.Game.rules g.G.Shown.shown g.G.Shown.move_shown c.args.asked c.args.tiers.now id
    c.args.number first out all told begun))
