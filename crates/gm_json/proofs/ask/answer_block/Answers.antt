use Rattle.gm_json.proofs.Lower.{◌+◌, [], List, ℕ, drop, subst, arith, rules, drop_more, drop_all, on_ok_weaker, IsAnswer, Midst}
use Rattle.std.proofs.lemmas.List.{length-drop}
use Rattle.gm_json.specs.Turns.{answers_after}
use Rattle.gm_json.specs.inner.Stops.{IsOutputStop}
use Rattle.gm_json.proofs.Serving.{opens, closes, unwritten}
use Rattle.gm_json.proofs.Stopping.{stopped_output}
use Rattle.gm_json.proofs.Exits.{passed, err_kind}
use Rattle.gm_json.proofs.ask.answer_block.Goals as goal

pub loop-index-init : goal.loop-index-init
loop-index-init g c = record {
  from = search rules;
  number = search rules;
  goes = λ r0 r1 r2 w0 h reads. opens (answers_after c.args.course.turns c.args.course.before (IsAnswer g.G.Game.rules g.G.Shown.shown g.G.Shown.move_shown c.args.asked c.args.tiers.now)) c.args.hand.now.number
      c.args.hand.now.line.items (drop c.args.from.now c.args.block.now) c.args.hand.now.answers.items r0 r1 r2 w0 _ h
      c.requires.answers (omega (arith, c.requires.short, length-drop c.args.from.now c.args.block.now)) reads;
}

pub loop-index-preserved : goal.loop-index-preserved
loop-index-preserved g c =
    let k = c.loop-index.index in
    let xs = c.args.block.now in
    record {
      from = search rules;
      number = let more = c.in_ok-take_byte.ensures.number in let before = c.loop-index.invariant.number in omega arith;
      goes = λ r0 r1 r2 w0 h reads. c.in_ok-take_byte.ensures.ok (drop (k + 1) xs) r0 r2 w0
          (subst (λ (ahead : List ℕ). Midst (answers_after c.args.course.turns c.args.course.before (IsAnswer g.G.Game.rules g.G.Shown.shown g.G.Shown.move_shown c.args.asked c.args.tiers.now))
          c.loop-index.hand.number c.loop-index.hand.line.items c.loop-index.hand.answers.items ahead r0 r2 w0 (g.W.Write.contents c.loop-index.output))
          (drop_more xs k _ c.loop-index-test.true) (c.loop-index.invariant.goes r0 r1 r2 w0 h reads));
    }

pub returns-in_err-take_byte-clause-err : goal.returns-in_err-take_byte-clause-err
returns-in_err-take_byte-clause-err g c r0 r1 r2 w0 h reads =
    let k = c.loop-index.index in
    let xs = c.args.block.now in
    passed c.from_residual.result _ c.in_err-take_byte.field-0.0 c.from_residual.ensures.1
    (c.in_err-take_byte.ensures.err (drop (k + 1) xs) r0 r2 w0
    (subst (λ (ahead : List ℕ). Midst (answers_after c.args.course.turns c.args.course.before (IsAnswer g.G.Game.rules g.G.Shown.shown g.G.Shown.move_shown c.args.asked c.args.tiers.now)) c.loop-index.hand.number
    c.loop-index.hand.line.items c.loop-index.hand.answers.items ahead r0 r2 w0 (g.W.Write.contents c.loop-index.output))
    (drop_more xs k _ c.loop-index-test.true) (c.loop-index.invariant.goes r0 r1 r2 w0 h reads)))

pub returns-clause-ok : goal.returns-clause-ok
returns-clause-ok g c r0 r1 r2 w0 h reads =
    let says = answers_after c.args.course.turns c.args.course.before (IsAnswer g.G.Game.rules g.G.Shown.shown g.G.Shown.move_shown c.args.asked c.args.tiers.now) in
    let k = c.loop-index.index in
    let hand = c.loop-index.hand in
    let at_end : Midst says hand.number hand.line.items hand.answers.items [] r0 r2 w0 (g.W.Write.contents c.loop-index.output)
    = subst (λ (ahead : List ℕ). Midst says hand.number hand.line.items hand.answers.items ahead r0 r2 w0 (g.W.Write.contents c.loop-index.output))
    (drop_all k c.args.block.now c.loop-index-test.false) (c.loop-index.invariant.goes r0 r1 r2 w0 h reads) in
    on_ok_weaker c.flush.result (λ written. closes says hand.number hand.line.items hand.answers.items r0 r2 w0 _ _ at_end written) c.flush.ensures.ok

pub returns-clause-err : goal.returns-clause-err
returns-clause-err g c r0 r1 r2 w0 h reads =
    let says = answers_after c.args.course.turns c.args.course.before (IsAnswer g.G.Game.rules g.G.Shown.shown g.G.Shown.move_shown c.args.asked c.args.tiers.now) in
    let k = c.loop-index.index in
    let hand = c.loop-index.hand in
    let at_end : Midst says hand.number hand.line.items hand.answers.items [] r0 r2 w0 (g.W.Write.contents c.loop-index.output)
    = subst (λ (ahead : List ℕ). Midst says hand.number hand.line.items hand.answers.items ahead r0 r2 w0 (g.W.Write.contents c.loop-index.output))
    (drop_all k c.args.block.now c.loop-index-test.false) (c.loop-index.invariant.goes r0 r1 r2 w0 h reads) in
    err_kind c.flush.result IsOutputStop _ _
    (λ s k part. stopped_output says c.args.course.before s _ _ _ _ _ _ k
    (unwritten says hand.number hand.line.items hand.answers.items [] r0 r2 w0 _ at_end _ part))
    c.flush.ensures.kind c.flush.ensures.err
