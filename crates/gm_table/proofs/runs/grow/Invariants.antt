use Rattle.gm_table.proofs.Lower.{◌≡◌, ℕ, ◌+◌, ◌-◌}
use Rattle.std.proofs.Common.{vec_len}
use Rattle.gm_table.specs.inner.Runs.{run_at}
use Rattle.gm_table.proofs.runs.grow.Given as goal

abbrev pub invariant-loop-alloc : goal.invariant-loop-alloc
invariant-loop-alloc l = (n : ℕ) → run_at l.runs n ≡ run_at l.initial.runs n

abbrev pub decreases-loop-alloc : goal.decreases-loop-alloc
decreases-loop-alloc l = l.level + 1 - vec_len l.runs
