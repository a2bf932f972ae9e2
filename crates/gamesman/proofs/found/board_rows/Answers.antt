use Rattle.gamesman.proofs.Lower.{refl, game_spec, board_row}
use Rattle.gm_play.proofs.Rows.{flat_more, flat_all}
use Rattle.gamesman.proofs.found.board_rows.Goals as goal

pub push_below-requires : goal.push_below-requires
push_below-requires g c = c.requires c.loop-x.x-index _ c.loop-x-test.true

pub loop-x-preserved : goal.loop-x-preserved
loop-x-preserved g c =
    let spec = game_spec g.G.Game.rules g.G.Shown.shown g.G.Shown.move_shown g.G.Pictured.picture in
    flat_more (board_row spec) c.args.found.now c.loop-x.x-index _ c.loop-x.rows.items c.push_below.new.rows.items _ c.loop-x-test.true c.loop-x.invariant
    c.in_ok-push_below.ensures refl

pub returns : goal.returns
returns g c =
    let spec = game_spec g.G.Game.rules g.G.Shown.shown g.G.Shown.move_shown g.G.Pictured.picture in
    flat_all (board_row spec) c.args.found.now c.loop-x.x-index c.loop-x.rows.items c.loop-x-test.false c.loop-x.invariant
