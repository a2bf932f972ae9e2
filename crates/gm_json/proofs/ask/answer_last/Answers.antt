use Rattle.gm_json.proofs.Lower.{◌≡◌, ◌<◌, length, rules, on_ok_weaker, IsAnswer}
use Rattle.std.proofs.KnownBytes.{Keeps-refl}
use Rattle.gm_json.specs.Turns.{answers_after}
use Rattle.gm_json.specs.inner.Stops.{IsOutputStop}
use Rattle.gm_json.proofs.Serving.{all_served, last_done}
use Rattle.gm_json.proofs.Stopping.{last_stopped, last_cut_off, if_turn}
use Rattle.gm_json.proofs.Exits.{passed, err_kind}
use Rattle.gm_json.proofs.Splitting.{some_of}
use Rattle.gm_json.proofs.ask.answer_last.Goals as goal

pub returns-then-is_empty-clause-ok : goal.returns-then-is_empty-clause-ok
returns-then-is_empty-clause-ok g c r0 r1 r2 w0 h same end =
    let empty : length c.args.hand.now.line.items ≡ 0 = search rules in
    all_served (answers_after c.args.course.turns c.args.course.before (IsAnswer g.G.Game.rules g.G.Shown.shown g.G.Shown.move_shown c.args.asked c.args.tiers.now)) c.args.hand.now.number
    c.args.hand.now.line.items r0 r1 r2 w0 _ h same empty end

pub returns-in_err-take_answer-clause-err : goal.returns-in_err-take_answer-clause-err
returns-in_err-take_answer-clause-err g c r0 r1 r2 w0 h same end =
    let s = c.in_err-take_answer.field-0.0 in
    let some : 0 < length c.args.hand.now.line.items = some_of _ _ c.is_empty.ensures c.if-is_empty.false in
    passed c.from_residual.result _ s c.from_residual.ensures.1
    (last_stopped (answers_after c.args.course.turns c.args.course.before (IsAnswer g.G.Game.rules g.G.Shown.shown g.G.Shown.move_shown c.args.asked c.args.tiers.now)) c.args.course.before c.args.hand.now.number
    c.args.hand.now.line.items r0 r1 r2 w0 _ h same _ some s c.take_answer.new.hand.number c.in_err-take_answer.ensures.kind (Keeps-refl _) end
    (if_turn s (c.take_answer.new.hand.number ≡ c.args.hand.now.number) c.take_answer.ensures.number))

pub returns-clause-ok : goal.returns-clause-ok
returns-clause-ok g c r0 r1 r2 w0 h same end =
    let some : 0 < length c.args.hand.now.line.items = some_of _ _ c.is_empty.ensures c.if-is_empty.false in
    on_ok_weaker c.flush.result
    (last_done (answers_after c.args.course.turns c.args.course.before (IsAnswer g.G.Game.rules g.G.Shown.shown g.G.Shown.move_shown c.args.asked c.args.tiers.now)) c.args.hand.now.number
    c.args.hand.now.line.items r0 r1 r2 w0 _ h same _ some c.args.hand.now.answers.items c.take_answer.new.hand.answers.items
    c.requires.answers c.in_ok-take_answer.ensures.ok end)
    c.flush.ensures.ok

pub returns-clause-err : goal.returns-clause-err
returns-clause-err g c r0 r1 r2 w0 h same end =
    let some : 0 < length c.args.hand.now.line.items = some_of _ _ c.is_empty.ensures c.if-is_empty.false in
    err_kind c.flush.result IsOutputStop _ _
    (λ s k part. last_cut_off (answers_after c.args.course.turns c.args.course.before (IsAnswer g.G.Game.rules g.G.Shown.shown g.G.Shown.move_shown c.args.asked c.args.tiers.now)) c.args.course.before c.args.hand.now.number
    c.args.hand.now.line.items r0 r1 r2 w0 _ h same _ some s c.take_answer.new.hand.number c.args.hand.now.answers.items
    c.take_answer.new.hand.answers.items c.requires.answers c.in_ok-take_answer.ensures.ok k part)
    c.flush.ensures.kind c.flush.ensures.err
