use Rattle.gamesman.proofs.Lower.{◌++◌, ◌∙◌, ap, refl}
use Rattle.gm_play.proofs.Rows.{flat_more, flat_all}
use Rattle.gamesman.specs.Listing.{entry_data, entry_line}
use Rattle.gamesman.proofs.listing.lines_of.Goals as goal

pub loop-row-preserved : goal.loop-row-preserved
loop-row-preserved c =
    flat_more (λ row. entry_line c.args.json (entry_data row.0.now row.1 row.2.now row.3 row.4 row.5)) c.args.rows.now c.loop-row.row-index _
    c.loop-row.lines.items c.push_line_of.new.lines.items _ c.loop-row-test.true c.loop-row.invariant
    (c.in_ok-push_line_of.ensures ∙ ap (λ e. c.loop-row.lines.items ++ entry_line c.args.json e) c.entry_of.ensures) refl

pub returns : goal.returns
returns c =
    flat_all (λ row. entry_line c.args.json (entry_data row.0.now row.1 row.2.now row.3 row.4 row.5)) c.args.rows.now c.loop-row.row-index
    c.loop-row.lines.items c.loop-row-test.false c.loop-row.invariant
