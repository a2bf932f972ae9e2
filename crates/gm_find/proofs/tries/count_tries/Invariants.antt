use Rattle.gm_find.proofs.Lower.{◌≡◌, ℕ, List, take, length, AreThose}
use Rattle.gm_find.specs.Tries.{IsTry}
use Rattle.gm_find.proofs.tries.count_tries.Given as goal

abbrev pub invariant-loop-m : goal.invariant-loop-m
invariant-loop-m g l = (kept : List ℕ) × AreThose (IsTry g.G.Game.rules l.known.position) (take l.m-index l.m-items) kept × (length kept ≡ l.number)
