use Rattle.gm_find.proofs.Lower.{◌≡◌, ◌+◌, ◌-◌, take, length}
use Rattle.std.proofs.Common.{◌≤◌, min}
use Rattle.gm_find.specs.Samples.{ArePicked}
use Rattle.gm_find.proofs.sample.sample_of.Given as goal

abbrev pub invariant-loop-place : goal.invariant-loop-place
invariant-loop-place g l = record {
  picked : ArePicked (take l.place l.items) l.chosen.items;
  many : length l.chosen.items + l.wanted ≡ min l.number (length l.items);
  room : l.wanted ≤ length l.items - l.place;
}
