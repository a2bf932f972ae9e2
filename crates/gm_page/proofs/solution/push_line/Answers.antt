use Rattle.gm_page.proofs.Lower.{ap, codes, steps_text}
use Rattle.std.proofs.lemmas.Result.{on_ok_weaker}
use Rattle.gm_page.specs.Solutions.{end_words, line_words}
use Rattle.gm_page.proofs.Sheeting.{line_parts}
use Rattle.gm_page.proofs.solution.push_line.Goals as goal

pub returns : goal.returns
unfolding line_words
returns g c =
    let steps = steps_text g.G.Game.rules g.G.Shown.move_shown c.args.p in
    on_ok_weaker c.push_end.result
    (λ e. line_parts c.args.text.now.items (codes ". Best play:") (steps c.args.line.now.moves.items) (steps c.as_slice.result.now)
    (end_words c.args.line.now.end) c.extend_from_slice.new.self.items
    c.push_steps.new.text.items c.push_end.new.text.items c.in_ok-extend_from_slice.ensures.items c.in_ok-push_steps.ensures
    (ap steps c.as_slice.ensures.value) e)
    c.push_end.ensures
