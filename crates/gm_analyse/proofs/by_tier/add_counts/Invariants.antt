use Rattle.gm_analyse.proofs.Lower.{◌≡◌, ◌++◌, map, take}
use Rattle.gm_analyse.specs.ByTier.{with_tier}
use Rattle.gm_analyse.proofs.by_tier.add_counts.Given as goal

abbrev pub invariant-loop-count : goal.invariant-loop-count
invariant-loop-count l = l.rows.items ≡ l.initial.rows.items ++ map (with_tier l.tier) (take l.count-index l.counts)
