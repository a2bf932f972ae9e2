use Rattle.gm_tactix.proofs.Lower.{◌≡◌, ◌-◌, range_with_len}
use Rattle.gm_tactix.proofs.tiers.child_tiers.Given as goal

abbrev pub invariant-loop-child : goal.invariant-loop-child
invariant-loop-child l = l.list.items ≡ range_with_len l.first (l.child - l.first)
