use Rattle.gm_play.proofs.Lower.{sym, ◌∙◌, drop_more, append_assoc, append-nil}
use Rattle.std.proofs.lemmas.List.{drop_all}
use Rattle.gm_play.proofs.Rows.{best_step}
use Rattle.gm_play.proofs.texts.push_steps.Goals as goal

pub move_text-text-requires-clause-listed : goal.move_text-text-requires-clause-listed
move_text-text-requires-clause-listed g c = (best_step g.G.Game.rules c.loop-number.here.position c.args.moves.now c.loop-number.number-index
    c.loop-number-test.true c.loop-number.invariant.best).0

pub play-here-requires : goal.play-here-requires
play-here-requires g c = (best_step g.G.Game.rules c.loop-number.here.position c.args.moves.now c.loop-number.number-index c.loop-number-test.true
    c.loop-number.invariant.best).0

pub loop-number-preserved : goal.loop-number-preserved
loop-number-preserved g c =
    let ms = c.args.moves.now in
    let k = c.loop-number.number-index in
    let more = drop_more ms k 0 c.loop-number-test.true in
    record {
      best = rw c.play-here.ensures (best_step g.G.Game.rules c.loop-number.here.position ms k c.loop-number-test.true c.loop-number.invariant.best).1;
      rows = rw (c.in_ok-push_place.ensures, c.as_slice.ensures.value, c.move_text-text.ensures, c.play-here.ensures, c.value_after-value.ensures)
          (append_assoc c.loop-number.rows.items _ _ ∙ (rw more at c.loop-number.invariant.rows));
    }

pub returns : goal.returns
returns g c =
    let l = c.loop-number in
    sym (append-nil l.rows.items) ∙ (rw (drop_all l.number-index c.args.moves.now c.loop-number-test.false) at l.invariant.rows)
