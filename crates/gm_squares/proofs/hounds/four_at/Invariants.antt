use Rattle.std.specs.Prelude.{◌<◌, ◌≤◌, ◌-◌}
use Rattle.gm_pieces.specs.Common.{get_or}
use Rattle.gm_squares.specs.declared.hounds.TheConstants.{FIRST}
use Rattle.gm_squares.proofs.hounds.four_at.Given as goal

abbrev pub invariant-loop-place : goal.invariant-loop-place
invariant-loop-place l = record { below : l.place < 435; low : get_or FIRST l.place 0 ≤ l.fn.rank }

abbrev pub decreases-loop-place : goal.decreases-loop-place
decreases-loop-place l = 435 - l.place
