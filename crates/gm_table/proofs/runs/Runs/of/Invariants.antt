use Rattle.gm_table.proofs.Lower.{◌≡◌, ℕ, ◌-◌, ◌≤◌, take, length, Phase, indexes_at, run_in}
use Rattle.gm_table.proofs.runs.Runs.of.Given as goal

abbrev pub invariant-loop-index : goal.invariant-loop-index
invariant-loop-index l = (l.index ≤ length l.records) × ((phase : Phase) (n : ℕ) → run_in l.runs phase n ≡ indexes_at phase n (take l.index l.records))

abbrev pub decreases-loop-index : goal.decreases-loop-index
decreases-loop-index l = length l.records - l.index
