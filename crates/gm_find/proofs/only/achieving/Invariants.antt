use Rattle.gm_find.proofs.Lower.{◌≡◌, ℕ, List, take, length, AreThose, Achieves}
use Rattle.gm_find.proofs.only.achieving.Given as goal

abbrev pub invariant-loop-m : goal.invariant-loop-m
invariant-loop-m g l = (kept : List ℕ) × AreThose (Achieves g.G.Game.rules l.aim l.known.position) (take l.m-index l.m-items) kept ×
    (length kept ≡ l.number)
