use Rattle.gm_analyse.proofs.Lower.{◌≡◌, take, TierCount}
use Rattle.std.proofs.Common.{max, fold}
use Rattle.gm_analyse.proofs.bars.most.Given as goal

abbrev pub invariant-loop-x : goal.invariant-loop-x
invariant-loop-x l = l.greatest ≡ fold (λ m (x : TierCount). max x.count.number m) 0 (take l.x-index l.counts)
