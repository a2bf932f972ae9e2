use Rattle.gm_tactix.proofs.Lower.{◌≡◌, ◌+◌, ◌++◌, length, take}
use Rattle.gm_tactix.proofs.LineTable.{block, shifted}
use Rattle.gm_tactix.proofs.segments.put_line.Given as goal

abbrev pub invariant-loop-place : goal.invariant-loop-place
invariant-loop-place l = record {
  long : length l.numbers ≡ 132;
  kept : take (l.count + l.place) l.numbers ≡ take l.count l.fn.numbers ++ shifted l.line (take l.place (block l.line l.content));
}
