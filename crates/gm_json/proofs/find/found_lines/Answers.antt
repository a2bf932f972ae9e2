use Rattle.gm_json.proofs.Lower.{ap, ◌∙◌, line_of, found_line}
use Rattle.gm_play.proofs.Rows.{flat_more, flat_all}
use Rattle.serde_json.proofs.Views.{view-Object}
use Rattle.gm_json.proofs.NoFloat.{found_no_float}
use Rattle.gm_json.proofs.find.found_lines.Goals as goal

pub push_line-requires : goal.push_line-requires
push_line-requires g c = found_no_float g.G.Shown.shown g.G.Shown.move_shown _ _ (view-Object c.put_found.new.members ∙ c.in_ok-put_found.ensures)

pub loop-x-preserved : goal.loop-x-preserved
loop-x-preserved g c =
    flat_more (found_line g.G.Shown.shown g.G.Shown.move_shown) c.args.found.now c.loop-x.x-index _ c.loop-x.lines.items c.push_line.new.lines.items _
    c.loop-x-test.true c.loop-x.invariant
    c.in_ok-push_line.ensures (ap line_of (view-Object c.put_found.new.members ∙ c.in_ok-put_found.ensures))

pub returns : goal.returns
returns g c = flat_all (found_line g.G.Shown.shown g.G.Shown.move_shown) c.args.found.now c.loop-x.x-index c.loop-x.lines.items c.loop-x-test.false
    c.loop-x.invariant
