use Rattle.gamesman.proofs.Lower.{take, game_spec}
use Rattle.gamesman.proofs.Finds.{IsSoFar}
use Rattle.gamesman.proofs.found.Search.write_by_tier.Given as goal

abbrev pub invariant-loop-tier : goal.invariant-loop-tier
invariant-loop-tier g l =
    IsSoFar (game_spec g.G.Game.rules g.G.Shown.shown g.G.Shown.move_shown g.G.Pictured.picture)
    l.self.asked l.form l.limit (take l.tier-index l.self.known.tiers.now) (g.O.Write.contents l.initial.output) (g.O.Write.contents l.output) l.left
