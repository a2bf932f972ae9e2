use Rattle.gm_json.proofs.Lower.{ℕ, List, take, drop, sym, subst, IsAnswer, Consumes}
use Rattle.gm_json.specs.Turns.{answers_after}
use Rattle.gm_json.specs.inner.Stops.{IsStopped}
use Rattle.gm_json.proofs.Exits.{err_map}
use Rattle.gm_json.proofs.ask.answer_unread.Goals as goal

pub returns-clause-ok : goal.returns-clause-ok
returns-clause-ok g c r0 r1 r2 w0 h reads =
    let feed = c.args.feed.now in
    c.answer_block.ensures.ok r0 r1 r2 w0 h (subst (λ (xs : List ℕ). Consumes r1 r2 (drop feed.from (take feed.to xs))) (sym c.deref.ensures.value) reads)

pub returns-clause-err : goal.returns-clause-err
returns-clause-err g c r0 r1 r2 w0 h reads =
    let feed = c.args.feed.now in
    err_map c.answer_block.result _ _
    (λ s. subst (λ (xs : List ℕ). IsStopped (answers_after c.args.course.turns c.args.course.before (IsAnswer g.G.Game.rules g.G.Shown.shown g.G.Shown.move_shown c.args.asked c.args.tiers.now)) c.args.course.before s c.answer_block.new.hand.number (drop c.answer_block.new.from (take feed.to xs)) r0 r2 w0
    (g.W.Write.contents c.answer_block.new.output)) c.deref.ensures.value)
    (c.answer_block.ensures.err r0 r1 r2 w0 h (subst (λ (xs : List ℕ). Consumes r1 r2 (drop feed.from (take feed.to xs))) (sym c.deref.ensures.value) reads))
