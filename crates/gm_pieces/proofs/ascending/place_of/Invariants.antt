use Rattle.std.specs.Prelude.{ℕ, length, slice_index}
use Rattle.gm_pieces.proofs.Lower.{◌<◌, ◌≤◌}
use Rattle.gm_pieces.proofs.ascending.place_of.Given as goal

abbrev pub invariant-loop-next : goal.invariant-loop-next
invariant-loop-next l = record {
  from : l.next ≤ l.place;
  within : l.place ≤ length l.list;
  before : (k : ℕ) → l.next ≤ k → k < l.place → slice_index l.list k < l.x;
  after : l.place < length l.list → l.x ≤ slice_index l.list l.place;
}

abbrev pub decreases-loop-next : goal.decreases-loop-next
decreases-loop-next l = l.next
