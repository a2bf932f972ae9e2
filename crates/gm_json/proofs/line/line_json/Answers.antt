use Rattle.gm_json.proofs.Lower.{◌≡◌, ◌+◌, ◌++◌, true, ℕ, List, [], drop, get_or, sym, ap, subst, ◌∙◌, drop_more, drop_all, Data, Position, AreBest, text, line_of, step_tree, steps_from, refl, rules, ap₂}
use Rattle.serde_json.specs.Data.{null}
use Rattle.gm_json.specs.Lines.{end_line}
use Rattle.serde_json.specs.View.{view}
use Rattle.gm_play.proofs.Rows.{best_step}
use Rattle.serde_json.specs.declared.value.Value.{Null, the_lemmas}
use Rattle.gm_json.proofs.Steps.{steps_end, steps_next, steps_true}
use Rattle.gm_json.proofs.line.line_json.Goals as goal

pub loop-number-init : goal.loop-number-init
loop-number-init g c =
    let r = g.G.Game.rules in
    let shown = g.G.Shown.shown in
    let start = c.args.start.now in
    let empty : view Null ≡ null = search (rules, the_lemmas) in
    let steps = steps_from r shown g.G.Shown.move_shown start.position c.value-value.result c.as_slice-number-items.result.now in
    record {
      legal = start.legal;
      best = subst (AreBest r start.position) (sym c.as_slice-number-items.ensures.value) c.in_ok-line.ensures.line.best;
      lines = ap (λ (l : List ℕ). l ++ steps) (c.in_ok-push_step.ensures ∙ ap₂ (λ (l : List ℕ) (d : Data). l ++ line_of (step_tree shown d start.position
          c.value-value.result)) c.new-lines.ensures.items empty);
    }

pub move_text-requires-clause-listed : goal.move_text-requires-clause-listed
move_text-requires-clause-listed g c =
    (best_step g.G.Game.rules c.loop-number.p c.as_slice-number-items.result.now c.loop-number.number-index c.loop-number-test.true
    c.loop-number.invariant.best).0

pub push_step-requires-in-loop-number-clause-legal : goal.push_step-requires-in-loop-number-clause-legal
push_step-requires-in-loop-number-clause-legal g c =
    let r = g.G.Game.rules in
    let ms = c.as_slice-number-items.result.now in
    let k = c.loop-number.number-index in
    let step = best_step r c.loop-number.p ms k c.loop-number-test.true c.loop-number.invariant.best in
    subst (λ (q : Position). r.is_legal q ≡ true) (sym c.play-p.ensures) (g.met.G.Game.lawful.play_legal c.loop-number.p (get_or ms k 0)
    c.loop-number.invariant.legal step.0)

pub loop-number-preserved : goal.loop-number-preserved
loop-number-preserved g c =
    let r = g.G.Game.rules in
    let shown = g.G.Shown.shown in
    let move_shown = g.G.Shown.move_shown in
    let ms = c.as_slice-number-items.result.now in
    let k = c.loop-number.number-index in
    let p = c.loop-number.p in
    let q = c.play-p.result in
    let m = get_or ms k 0 in
    let cut = drop_more ms k 0 c.loop-number-test.true in
    let step = best_step r p ms k c.loop-number-test.true c.loop-number.invariant.best in
    let done = c.loop-number.lines.items in
    let start = c.args.start.now.position in
    let all : List ℕ = line_of (step_tree shown null start c.value-value.result) ++ steps_from r shown move_shown start c.value-value.result ms in
    let name : view c.in_ok-name.name ≡ text (move_shown p m) = c.in_ok-name.ensures ∙ ap text (c.as_slice.ensures.value ∙ c.move_text.ensures) in
    let more : c.push_step-in-loop-number.new.lines.items ≡ done ++ line_of (step_tree shown (text (move_shown p m)) q c.value_after-value.result)
    = subst (λ (d : Data). c.push_step-in-loop-number.new.lines.items ≡ done ++ line_of (step_tree shown d q c.value_after-value.result)) name
    c.in_ok-push_step-2.ensures in
    record {
      legal = subst (λ (x : Position). r.is_legal x ≡ true) (sym c.play-p.ensures)
          (g.met.G.Game.lawful.play_legal p m c.loop-number.invariant.legal step.0);
      best = subst (λ (x : Position). AreBest r x (drop (k + 1) ms)) (sym c.play-p.ensures) step.1;
      lines = steps_next r shown move_shown p q c.loop-number.value c.value_after-value.result m (drop (k + 1) ms) done
          c.push_step-in-loop-number.new.lines.items all c.play-p.ensures c.value_after-value.ensures more
          (subst (λ (xs : List ℕ). done ++ steps_from r shown move_shown p c.loop-number.value xs ≡ all) cut c.loop-number.invariant.lines);
    }

pub returns : goal.returns
returns g c =
    let r = g.G.Game.rules in
    let shown = g.G.Shown.shown in
    let move_shown = g.G.Shown.move_shown in
    let start = c.args.start.now in
    let line = c.in_ok-line.line in
    let value = c.value-value.result in
    let best = c.in_ok-line.ensures.line in
    let done = c.loop-number.lines.items in
    let first = line_of (step_tree shown null start.position value) in
    let steps : List ℕ → List ℕ = λ (ms : List ℕ). steps_from r shown move_shown start.position value ms in
    let all : done ++ [] ≡ first ++ steps line.moves.items = ap (λ (xs : List ℕ). done ++ steps_from r shown move_shown c.loop-number.p c.loop-number.value xs)
    (sym (drop_all c.loop-number.number-index c.as_slice-number-items.result.now c.loop-number-test.false)) ∙ c.loop-number.invariant.lines
    ∙ ap (λ (ms : List ℕ). first ++ steps ms) c.as_slice-number-items.ensures.value in
    record {
      start = start.position;
      read = (start.legal, refl);
      value = value;
      is_true = c.value-value.ensures.value;
      line = line;
      is_best = best;
      whole = c.in_ok-line.ensures.whole;
      steps = steps line.moves.items;
      are_steps = steps_true r shown move_shown line.moves.items start.position value best.best c.value-value.ensures.value;
      out_is = steps_end done first (steps line.moves.items) (end_line line.end) c.push_end.new.lines.items all c.in_ok-push_end.ensures;
    }
