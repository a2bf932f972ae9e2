use Rattle.gm_tactix.proofs.Lower.{◌≡◌, ◌≤◌, ◌+◌, length, take, filter, range_with_len, can_take, counters_of}
use Rattle.gm_pieces.specs.Common.{flat_map}
use Rattle.gm_tactix.specs.inner.Lines.{line_segments}
use Rattle.std.specs.Prelude.{◌*◌}
use Rattle.gm_tactix.proofs.segments.list_takeable.Given as goal

abbrev pub invariant-loop-line : goal.invariant-loop-line
invariant-loop-line l = record {
  long : length l.numbers ≡ 132;
  rows : l.count ≤ 15 * l.line;
  columns : l.count ≤ 25 + 10 * l.line;
  kept : take l.count l.numbers ≡ filter (can_take 5 (counters_of 25 l.counters)) (flat_map line_segments (range_with_len 0 l.line));
}
