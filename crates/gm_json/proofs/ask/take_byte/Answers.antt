use Rattle.gm_json.proofs.Lower.{◌≡◌, ◌≤◌, ◌<◌, ◌++◌, ◌∷◌, [], true, false, length, refl, rules, ◌==◌, kept_bytes, IsAnswer}
use Rattle.gm_json.specs.Turns.{answers_after}
use Rattle.gm_json.proofs.Serving.{byte_kept, byte_past, line_done}
use Rattle.gm_json.proofs.Stopping.{line_stopped}
use Rattle.gm_json.proofs.Exits.{err_both, ok_three}
use Rattle.gm_json.proofs.Splitting.{short_of, full_of, unequal}
use Rattle.gm_json.proofs.ask.take_byte.Goals as goal

pub returns-then-byte-eq10-clause-ok : goal.returns-then-byte-eq10-clause-ok
returns-then-byte-eq10-clause-ok g c ahead r0 r1 w0 h =
    let says = answers_after c.args.course.turns c.args.course.before (IsAnswer g.G.Game.rules g.G.Shown.shown g.G.Shown.move_shown c.args.asked c.args.tiers.now) in
    let here : (c.args.byte == 10) ≡ true = search rules in
    ok_three c.end_line.result _ _ _ _
    (λ done empty next. line_done says c.args.hand.now.number c.args.hand.now.line.items c.args.hand.now.answers.items ahead c.args.byte r0 r1 w0 _ h _
    c.end_line.new.hand.line.items c.end_line.new.hand.answers.items
    c.end_line.new.hand.number here empty next done)
    c.end_line.ensures.ok c.end_line.ensures.line c.end_line.ensures.number

pub returns-then-byte-eq10-clause-err : goal.returns-then-byte-eq10-clause-err
returns-then-byte-eq10-clause-err g c ahead r0 r1 w0 h =
    let says = answers_after c.args.course.turns c.args.course.before (IsAnswer g.G.Game.rules g.G.Shown.shown g.G.Shown.move_shown c.args.asked c.args.tiers.now) in
    let here : (c.args.byte == 10) ≡ true = search rules in
    err_both c.end_line.result _ _ _
    (λ s broken late. line_stopped says c.args.course.before c.args.hand.now.number c.args.hand.now.line.items c.args.hand.now.answers.items ahead c.args.byte
    r0 r1 w0 _ h _ s c.end_line.new.hand.number here late broken)
    c.end_line.ensures.err c.end_line.ensures.late

pub returns-clause-ok : goal.returns-clause-ok
returns-clause-ok g c ahead r0 r1 w0 h =
    let says = answers_after c.args.course.turns c.args.course.before (IsAnswer g.G.Game.rules g.G.Shown.shown g.G.Shown.move_shown c.args.asked c.args.tiers.now) in
    let kept = c.args.hand.now.line.items in
    let grown : c.push.new.self.items ≡ kept ++ c.args.byte ∷ [] = search rules in
    let other : (c.args.byte == 10) ≡ false = search rules in
    let short : length kept < kept_bytes = short_of _ _ _ c.is_full.ensures.value c.is_full.ensures.fits c.if-is_full.false in
    byte_kept says c.args.hand.now.number kept c.args.hand.now.answers.items ahead c.args.byte r0 r1 w0 _ h c.push.new.self.items other short grown

pub returns-then-is_full-clause-ok : goal.returns-then-is_full-clause-ok
returns-then-is_full-clause-ok g c ahead r0 r1 w0 h =
    let says = answers_after c.args.course.turns c.args.course.before (IsAnswer g.G.Game.rules g.G.Shown.shown g.G.Shown.move_shown c.args.asked c.args.tiers.now) in
    let kept = c.args.hand.now.line.items in
    let other : (c.args.byte == 10) ≡ false = unequal c.args.byte 10 c.if-byte-eq10.false in
    let full : kept_bytes ≤ length kept = full_of _ _ _ c.is_full.ensures.value c.is_full.ensures.fits c.if-is_full.true in
    byte_past says c.args.hand.now.number kept c.args.hand.now.answers.items ahead c.args.byte r0 r1 w0 _ h kept other full refl
