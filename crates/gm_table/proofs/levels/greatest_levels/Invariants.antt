use Rattle.gm_table.proofs.Lower.{◌≡◌, ◌-◌, ◌≤◌, take, length, WinLose, Ties, greatest_of}
use Rattle.gm_table.proofs.levels.greatest_levels.Given as goal

abbrev pub invariant-loop-index : goal.invariant-loop-index
invariant-loop-index l = (l.index ≤ length l.records)
    × (l.win_lose ≡ greatest_of WinLose (take l.index l.records)) × (l.ties ≡ greatest_of Ties (take l.index l.records))

abbrev pub decreases-loop-index : goal.decreases-loop-index
decreases-loop-index l = length l.records - l.index
