use Rattle.gm_find.proofs.Spreading.{IsWalked}
use Rattle.gm_find.proofs.spread.met_along.Given as goal

abbrev pub invariant-loop : goal.invariant-loop
invariant-loop g l = IsWalked g.G.Game.rules l.fn.known.position l.here.position l.counter l.met.items
