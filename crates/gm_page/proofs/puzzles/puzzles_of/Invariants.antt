use Rattle.gm_page.proofs.Lower.{take}
use Rattle.std.specs.List.{AllZip}
use Rattle.gm_draw.specs.GameSpecs.{game_spec}
use Rattle.gm_page.specs.Puzzles.{IsPuzzleFor}
use Rattle.gm_page.proofs.puzzles.puzzles_of.Given as goal

abbrev pub invariant-loop-x : goal.invariant-loop-x
invariant-loop-x g l =
    AllZip (IsPuzzleFor (game_spec g.G.Game.rules g.G.Shown.shown g.G.Shown.move_shown g.G.Pictured.picture)) (take l.x-index l.found) l.puzzles.items
