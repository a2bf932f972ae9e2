use Rattle.gm_play.proofs.Lower.{refl, rows_from}
use Rattle.gm_play.proofs.Rows.{rows_true}
use Rattle.gm_play.proofs.texts.line_text.Goals as goal

pub push_steps-requires : goal.push_steps-requires
push_steps-requires g c = rw c.as_slice.ensures.value c.in_ok-line.ensures.line.best

pub returns : goal.returns
returns g c =
    let r = g.G.Game.rules in
    let s = g.G.Shown.shown in
    let m = g.G.Shown.move_shown in
    let start = c.args.start.now in
    let line = c.in_ok-line.line in
    let value = c.value-value.result in
    record {
      start = start.position;
      read = (start.legal, refl);
      value = value;
      is_true = c.value-value.ensures.value;
      line = line;
      is_best = c.in_ok-line.ensures.line;
      whole = c.in_ok-line.ensures.whole;
      rows = rows_from r s m start.position value line.moves.items;
      are_rows = rows_true r s m line.moves.items start.position value c.in_ok-line.ensures.line.best c.value-value.ensures.value;
      out_is = rw (c.in_ok-push_end.ensures, c.in_ok-push_steps.ensures, c.in_ok-push_place.ensures, c.new-rows.ensures.items, c.as_slice.ensures.value) refl;
    }
