use Rattle.gm_json.proofs.Lower.{◌++◌, List, ℕ, codes, sym, subst, ap, ◌∙◌}
use Rattle.std.proofs.Common.{append-nil}
use Rattle.std.specs.Prelude.{option_map}
use Rattle.serde_json.specs.View.{view}
use Rattle.gm_json.specs.Answers.{IsTextAnswer, AreTextAnswers}
use Rattle.gm_json.specs.Places.{IsAskedAs}
use Rattle.gm_json.proofs.Objects.{next_text, contains_item, err_of}
use Rattle.gm_json.proofs.object_answer.push_more_answers.Goals as goal

pub loop-text-init : goal.loop-text-init
loop-text-init g c = λ before h. subst
    (λ (ts : List (List ℕ)). AreTextAnswers g.G.Game.rules g.G.Shown.shown g.G.Shown.move_shown c.args.asked c.args.tiers.now
    (option_map (λ v. view v.now) c.args.id) c.args.number ts (c.args.all.now.items ++ codes "\n")) (sym (append-nil before)) h

pub loop-text-preserved : goal.loop-text-preserved
loop-text-preserved g c = λ before h.
    let (out, is, e) = c.in_ok-push_text_answer.ensures.answer in
    next_text g.G.Game.rules g.G.Shown.shown g.G.Shown.move_shown c.args.asked c.args.tiers.now (option_map (λ v. view v.now) c.args.id) c.args.number
    (λ t. t.items) c.args.texts.now c.loop-text.text-index c.text-item.result before c.loop-text.all.items c.push_line_end.new.all.items c.push_text_answer.new.all.items out
    c.loop-text-test.true (c.loop-text.invariant before h) c.in_ok-push_line_end.ensures.ok e
    (subst (λ (t : List ℕ). IsTextAnswer g.G.Game.rules g.G.Shown.shown g.G.Shown.move_shown c.args.asked c.args.tiers.now t c.args.number out)
    (c.as_slice.ensures.value ∙ ap (λ t. t.items) c.text-item.is) is)

pub returns-in_err-push_text_answer-clause-not_held : goal.returns-in_err-push_text_answer-clause-not_held
returns-in_err-push_text_answer-clause-not_held g c e =
    let f = c.from_residual-in_err-push_text_answer in
    let (p, is, held) = c.in_err-push_text_answer.ensures.not_held (err_of f.result _ _ f.ensures.1 e) in (
      c.text-item.result.items,
      p,
      contains_item (λ t. t.items) c.args.texts.now c.loop-text.text-index c.text-item.result c.loop-text-test.true c.text-item.is,
      subst (λ (t : List ℕ). IsAskedAs g.G.Game.rules g.G.Shown.shown g.G.Shown.move_shown t p) c.as_slice.ensures.value is,
      held,
    )
