use Rattle.std.proofs.Common.{◌-◌, ◌≤◌}
use Rattle.gm_stacks.specs.Heights.{stackings, sum_down}
use Rattle.gm_stacks.proofs.ranked.first_height.Given as goal

abbrev pub invariant-loop-height : goal.invariant-loop-height
invariant-loop-height l = record {
  low : l.height ≤ l.rows;
  few : l.height ≤ l.pieces;
  passed : sum_down (stackings l.rows l.others) l.height l.pieces ≤ l.rank;
}

abbrev pub decreases-loop-height : goal.decreases-loop-height
decreases-loop-height l = l.pieces - l.height
