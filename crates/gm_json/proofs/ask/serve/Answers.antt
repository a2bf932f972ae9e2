use Rattle.gm_json.proofs.Lower.{◌≡◌, ◌≤◌, List, ℕ, arith, rules, subst, sym, ◌∙◌, IsAnswer}
use Rattle.gm_json.specs.declared.turn.Stop.{Stop}
use Rattle.gm_json.specs.inner.Feeds.{ahead, unread}
use Rattle.gm_json.specs.Turns.{answers_after}
use Rattle.gm_json.specs.inner.Stops.{IsStopped}
use Rattle.gm_json.proofs.Serving.{begins, read_fails}
use Rattle.gm_json.proofs.Stopping.{consumes_unread, all_of_block, none_given}
use Rattle.gm_json.proofs.Exits.{passed, err_map}
use Rattle.gm_json.proofs.ask.serve.Goals as goal

pub loop-turn-init : goal.loop-turn-init
loop-turn-init g c =
    let says = answers_after c.args.course.turns c.args.course.before (IsAnswer g.G.Game.rules g.G.Shown.shown g.G.Shown.move_shown c.args.asked c.args.tiers.now) in
    let r1 = g.R.Read.remaining c.args.input.now in
    let r0 = ahead c.args.feed.now r1 in
    let w0 = g.W.Write.contents c.args.output.now in
    record {
      block = c.answer_unread.ensures.block;
      lines = c.answer_unread.ensures.lines;
      taken = c.in_ok-answer_unread.ensures.taken;
      few = c.in_ok-answer_unread.ensures.number;
      answers = c.in_ok-answer_unread.ensures.empty;
      goes = c.in_ok-answer_unread.ensures.ok r0 r0 r1 w0
          (begins says r0 w0 c.args.hand.now.number c.args.hand.now.line.items c.requires.number c.requires.line) (consumes_unread (unread c.args.feed.now) r1);
    }

pub returns-in_err-answer_unread-clause-err : goal.returns-in_err-answer_unread-clause-err
returns-in_err-answer_unread-clause-err g c =
    let says = answers_after c.args.course.turns c.args.course.before (IsAnswer g.G.Game.rules g.G.Shown.shown g.G.Shown.move_shown c.args.asked c.args.tiers.now) in
    let r1 = g.R.Read.remaining c.args.input.now in
    let r0 = ahead c.args.feed.now r1 in
    let w0 = g.W.Write.contents c.args.output.now in
    passed c.from_residual.result _ c.in_err-answer_unread.field-0.0 c.from_residual.ensures.1
    (c.in_err-answer_unread.ensures.err r0 r0 r1 w0
    (begins says r0 w0 c.args.hand.now.number c.args.hand.now.line.items c.requires.number c.requires.line) (consumes_unread (unread c.args.feed.now) r1))

pub returns-in_err-read_block-clause-err : goal.returns-in_err-read_block-clause-err
returns-in_err-read_block-clause-err g c =
    let says = answers_after c.args.course.turns c.args.course.before (IsAnswer g.G.Game.rules g.G.Shown.shown g.G.Shown.move_shown c.args.asked c.args.tiers.now) in
    let r1 = g.R.Read.remaining c.loop-turn.input in
    let r2 = g.R.Read.remaining c.read_block.new.input in
    let r0 = ahead c.args.feed.now (g.R.Read.remaining c.args.input.now) in
    let w0 = g.W.Write.contents c.args.output.now in
    let w1 = g.W.Write.contents c.loop-turn.output in
    let n = c.loop-turn.hand.number in
    passed c.from_residual-in_err-read_block.result _ c.in_err-read_block.field-0.0 c.from_residual-in_err-read_block.ensures.1
    (subst (λ (s : Stop). IsStopped says c.args.course.before s n (unread c.read_block.new.feed) r0 r2 w0 w1) (sym c.in_err-read_block.ensures.error)
    (read_fails says n c.loop-turn.hand.line.items r0 r1 r2 w0 w1 c.loop-turn.invariant.goes c.in_err-read_block.ensures.err))

pub returns-then-branch-eq0-clause-ok : goal.returns-then-branch-eq0-clause-ok
returns-then-branch-eq0-clause-ok g c =
    let r1 = g.R.Read.remaining c.loop-turn.input in
    let r2 = g.R.Read.remaining c.read_block.new.input in
    let r0 = ahead c.args.feed.now (g.R.Read.remaining c.args.input.now) in
    let w0 = g.W.Write.contents c.args.output.now in
    let feed = c.read_block.new.feed in
    let zero : c.in_ok-read_block.field-0 ≡ 0 = search rules in
    let none : feed.to ≤ feed.from = let to = c.in_ok-read_block.ensures.to in omega arith in
    c.answer_last.ensures.ok r0 r1 r2 w0 c.loop-turn.invariant.goes
    (none_given r1 r2 feed.from feed.to feed.block.items none c.in_ok-read_block.ensures.reads) (c.in_ok-read_block.ensures.end zero)

pub returns-then-branch-eq0-clause-err : goal.returns-then-branch-eq0-clause-err
returns-then-branch-eq0-clause-err g c =
    let says = answers_after c.args.course.turns c.args.course.before (IsAnswer g.G.Game.rules g.G.Shown.shown g.G.Shown.move_shown c.args.asked c.args.tiers.now) in
    let r1 = g.R.Read.remaining c.loop-turn.input in
    let r2 = g.R.Read.remaining c.read_block.new.input in
    let r0 = ahead c.args.feed.now (g.R.Read.remaining c.args.input.now) in
    let w0 = g.W.Write.contents c.args.output.now in
    let w1 = g.W.Write.contents c.answer_last.new.output in
    let feed = c.read_block.new.feed in
    let n = c.answer_last.new.hand.number in
    let zero : c.in_ok-read_block.field-0 ≡ 0 = search rules in
    let none : feed.to ≤ feed.from = let to = c.in_ok-read_block.ensures.to in omega arith in
    err_map c.answer_last.result _ _
    (λ s. subst (λ (ys : List ℕ). IsStopped says c.args.course.before s n ys r0 r2 w0 w1) (sym (all_of_block feed.from feed.to feed.block.items none)))
    (c.answer_last.ensures.err r0 r1 r2 w0 c.loop-turn.invariant.goes
    (none_given r1 r2 feed.from feed.to feed.block.items none c.in_ok-read_block.ensures.reads) (c.in_ok-read_block.ensures.end zero))

pub returns-in_err-answer_unread-2-clause-err : goal.returns-in_err-answer_unread-2-clause-err
returns-in_err-answer_unread-2-clause-err g c =
    let r1 = g.R.Read.remaining c.loop-turn.input in
    let r2 = g.R.Read.remaining c.read_block.new.input in
    let r0 = ahead c.args.feed.now (g.R.Read.remaining c.args.input.now) in
    passed c.from_residual-in_err-answer_unread-2.result _ c.in_err-answer_unread-2.field-0.0 c.from_residual-in_err-answer_unread-2.ensures.1
    (c.in_err-answer_unread-2.ensures.err r0 r1 r2 (g.W.Write.contents c.args.output.now) c.loop-turn.invariant.goes c.in_ok-read_block.ensures.reads)

pub loop-turn-preserved : goal.loop-turn-preserved
loop-turn-preserved g c =
    let r1 = g.R.Read.remaining c.loop-turn.input in
    let r2 = g.R.Read.remaining c.read_block.new.input in
    let r0 = ahead c.args.feed.now (g.R.Read.remaining c.args.input.now) in
    record {
      block = c.answer_unread-in-loop-turn.ensures.block;
      lines = c.answer_unread-in-loop-turn.ensures.lines ∙ (c.read_block.ensures.lines ∙ c.loop-turn.invariant.lines);
      taken = c.in_ok-answer_unread-2.ensures.taken;
      few = c.in_ok-answer_unread-2.ensures.number;
      answers = c.in_ok-answer_unread-2.ensures.empty;
      goes = c.in_ok-answer_unread-2.ensures.ok r0 r1 r2 (g.W.Write.contents c.args.output.now) c.loop-turn.invariant.goes c.in_ok-read_block.ensures.reads;
    }
