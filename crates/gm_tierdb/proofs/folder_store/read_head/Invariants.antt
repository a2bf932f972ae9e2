use Rattle.gm_tierdb.proofs.Lower.{◌-◌, ◌≤◌}
use Rattle.gm_tierdb.proofs.folder_store.read_head.Given as goal

abbrev pub invariant-loop-count : goal.invariant-loop-count
invariant-loop-count g l = l.count ≤ 24

abbrev pub decreases-loop-count : goal.decreases-loop-count
decreases-loop-count g l = 24 - l.count
