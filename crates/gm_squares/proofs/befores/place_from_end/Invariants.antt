use Rattle.std.specs.Prelude.{length, slice_index}
use Rattle.gm_pieces.proofs.Lower.{◌<◌, ◌≤◌}
use Rattle.gm_squares.proofs.befores.place_from_end.Given as goal

abbrev pub invariant-loop-place : goal.invariant-loop-place
invariant-loop-place l = record {
  within : l.place ≤ length l.list;
  after : l.place < length l.list → l.x ≤ slice_index l.list l.place;
}

abbrev pub decreases-loop-place : goal.decreases-loop-place
decreases-loop-place l = l.place
