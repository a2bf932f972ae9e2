use Rattle.gm_find.proofs.Lower.{take}
use Rattle.gm_find.proofs.Onlies.{IsOnlySoFar}
use Rattle.gm_find.proofs.only.has_only_result.Given as goal

abbrev pub invariant-loop-m : goal.invariant-loop-m
invariant-loop-m g l = IsOnlySoFar g.G.Game.rules l.aim l.known.position (take l.m-index l.m-items) l.only
