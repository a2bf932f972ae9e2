use Rattle.gm_frontier.proofs.Lower.{ℕ, take, Contains, IsBelow}
use Rattle.gm_frontier.proofs.last.are_below.Given as goal

abbrev pub invariant-loop-tier : goal.invariant-loop-tier
invariant-loop-tier g l = (t : ℕ) → Contains (take l.tier-index l.tier-items) t → IsBelow g.G.Game.rules l.place t
