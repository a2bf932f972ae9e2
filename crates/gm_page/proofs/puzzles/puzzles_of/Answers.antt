use Rattle.gm_page.proofs.Lower.{List, Found, subst, take_all}
use Rattle.std.specs.List.{AllZip}
use Rattle.gm_draw.specs.GameSpecs.{game_spec}
use Rattle.gm_page.specs.Puzzles.{IsPuzzleFor}
use Rattle.gm_page.proofs.Sheeting.{puzzle_next}
use Rattle.gm_page.proofs.puzzles.puzzles_of.Goals as goal

pub loop-x-preserved : goal.loop-x-preserved
loop-x-preserved g c =
    puzzle_next (game_spec g.G.Game.rules g.G.Shown.shown g.G.Shown.move_shown g.G.Pictured.picture) c.args.found.now c.loop-x.x-index _
    c.loop-x.puzzles.items c.push.new.self.items _ c.loop-x-test.true c.loop-x.invariant c.in_ok-puzzle_of.ensures c.in_ok-push.ensures.items

pub returns : goal.returns
returns g c =
    let spec = game_spec g.G.Game.rules g.G.Shown.shown g.G.Shown.move_shown g.G.Pictured.picture in
    subst (λ (l : List Found). AllZip (IsPuzzleFor spec) l c.loop-x.puzzles.items) (take_all c.loop-x.x-index c.args.found.now c.loop-x-test.false) c.loop-x.invariant
