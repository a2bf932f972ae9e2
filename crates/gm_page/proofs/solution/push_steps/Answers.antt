use Rattle.gm_page.proofs.Lower.{ap₂, append_assoc, codes, ◌≡◌, ◌+◌, ◌++◌, true, ℕ, List, drop, get_or, refl, sym, subst, ◌∙◌, append-nil, Position, AreBest, steps_text, drop_more, drop_all}
use Rattle.gm_draw.specs.Diagrams.{escaped}
use Rattle.gm_play.proofs.Rows.{best_step}
use Rattle.gm_page.proofs.Sheeting.{steps_next}
use Rattle.gm_page.proofs.solution.push_steps.Goals as goal

pub loop-number-init : goal.loop-number-init
loop-number-init g c = record { legal = c.requires.legal; best = c.requires.best; steps = refl }

pub move_text-requires-clause-legal : goal.move_text-requires-clause-legal
move_text-requires-clause-legal g c = c.loop-number.invariant.legal

pub move_text-requires-clause-listed : goal.move_text-requires-clause-listed
move_text-requires-clause-listed g c = (best_step g.G.Game.rules c.loop-number.p c.args.moves.now c.loop-number.number-index c.loop-number-test.true
    c.loop-number.invariant.best).0

pub play-p-requires-clause-legal : goal.play-p-requires-clause-legal
play-p-requires-clause-legal g c = c.loop-number.invariant.legal

pub play-p-requires-clause-listed : goal.play-p-requires-clause-listed
play-p-requires-clause-listed g c = (best_step g.G.Game.rules c.loop-number.p c.args.moves.now c.loop-number.number-index c.loop-number-test.true
    c.loop-number.invariant.best).0

pub loop-number-preserved : goal.loop-number-preserved
loop-number-preserved g c =
    let r = g.G.Game.rules in
    let move_shown = g.G.Shown.move_shown in
    let ms = c.args.moves.now in
    let k = c.loop-number.number-index in
    let m = get_or ms k 0 in
    let p = c.loop-number.p in
    let done = c.loop-number.text.items in
    let all : List ℕ = c.args.text.now.items ++ steps_text r move_shown c.args.start ms in
    let step = best_step r p ms k c.loop-number-test.true c.loop-number.invariant.best in
    record {
      legal = subst (λ (x : Position). r.is_legal x ≡ true) (sym c.play-p.ensures) (g.met.G.Game.lawful.play_legal p m c.loop-number.invariant.legal step.0);
      best = subst (λ (x : Position). AreBest r x (drop (k + 1) ms)) (sym c.play-p.ensures) step.1;
      steps = steps_next r move_shown p c.play-p.result m (drop (k + 1) ms) done c.push_escaped.new.text.items all c.play-p.ensures
          (c.in_ok-push_escaped.ensures ∙ ap₂ (λ (t u : List ℕ). t ++ escaped u) c.in_ok-extend_from_slice.ensures.items
          (c.as_slice.ensures.value ∙ c.move_text.ensures) ∙ append_assoc done (codes " ") (escaped (move_shown p m)))
          (subst (λ (xs : List ℕ). done ++ steps_text r move_shown p xs ≡ all) (drop_more ms k 0 c.loop-number-test.true) c.loop-number.invariant.steps);
    }

pub returns : goal.returns
returns g c =
    let ms = c.args.moves.now in
    let l = c.loop-number in
    let r = g.G.Game.rules in
    let move_shown = g.G.Shown.move_shown in
    let all : List ℕ = c.args.text.now.items ++ steps_text r move_shown c.args.start ms in
    sym (append-nil l.text.items) ∙ subst (λ (xs : List ℕ). l.text.items ++ steps_text r move_shown l.p xs ≡ all)
    (drop_all l.number-index ms c.loop-number-test.false) l.invariant.steps
