use Rattle.gm_find.proofs.Lower.{refl, found_row}
use Rattle.gm_play.proofs.Rows.{flat_more, flat_all}
use Rattle.gm_find.proofs.rows.found_rows.Goals as goal

pub push_found-requires : goal.push_found-requires
push_found-requires g c = c.requires c.loop-x.x-index _ c.loop-x-test.true

pub loop-x-preserved : goal.loop-x-preserved
loop-x-preserved g c =
    flat_more (found_row g.G.Shown.shown g.G.Shown.move_shown) c.args.found.now c.loop-x.x-index _ c.loop-x.rows.items c.push_found.new.rows.items _
    c.loop-x-test.true c.loop-x.invariant
    c.in_ok-push_found.ensures refl

pub returns : goal.returns
returns g c = flat_all (found_row g.G.Shown.shown g.G.Shown.move_shown) c.args.found.now c.loop-x.x-index c.loop-x.rows.items c.loop-x-test.false
    c.loop-x.invariant
