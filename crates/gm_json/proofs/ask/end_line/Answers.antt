use Rattle.gm_json.proofs.Lower.{on_ok_weaker, IsAnswer}
use Rattle.gm_json.specs.Turns.{answers_after}
use Rattle.gm_json.specs.inner.Stops.{IsOutputStop}
use Rattle.gm_json.proofs.Serving.{line_said, line_unsaid}
use Rattle.gm_json.proofs.Stopping.{line_cut_off}
use Rattle.gm_json.proofs.Exits.{err_kind}
use Rattle.gm_json.proofs.ask.end_line.Goals as goal

pub returns-in-Ok-clause-ok : goal.returns-in-Ok-clause-ok
returns-in-Ok-clause-ok g c =
    let says = answers_after c.args.course.turns c.args.course.before (IsAnswer g.G.Game.rules g.G.Shown.shown g.G.Shown.move_shown c.args.asked c.args.tiers.now) in
    on_ok_weaker c.next_line.result
    (line_said says c.args.hand.now.line.items c.args.hand.now.number c.args.hand.now.answers.items c.take_answer.new.hand.answers.items
    c.next_line.new.hand.answers.items _ _ c.in-Ok.ensures.ok)
    c.next_line.ensures.ok

pub returns-in-Ok-clause-err : goal.returns-in-Ok-clause-err
returns-in-Ok-clause-err g c =
    let says = answers_after c.args.course.turns c.args.course.before (IsAnswer g.G.Game.rules g.G.Shown.shown g.G.Shown.move_shown c.args.asked c.args.tiers.now) in
    let line = c.args.hand.now.line.items in
    let n = c.args.hand.now.number in
    let answers = c.args.hand.now.answers.items in
    err_kind c.next_line.result IsOutputStop _ _
    (λ s k part. line_cut_off says c.args.course.before s line n answers _ _ k
    (line_unsaid says line n answers c.take_answer.new.hand.answers.items _ _ c.in-Ok.ensures.ok part))
    c.next_line.ensures.kind c.next_line.ensures.err
