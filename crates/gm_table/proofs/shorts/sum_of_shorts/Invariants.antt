use Rattle.gm_table.proofs.Lower.{◌≡◌, ◌≤◌, map, length, take, is_decided, IsSummary, record_of_short}
use Rattle.std.specs.List.{filter}
use Rattle.gm_table.specs.inner.Shorts.{marked_short}
use Rattle.gm_table.proofs.shorts.sum_of_shorts.Given as goal

abbrev pub invariant-loop-short : goal.invariant-loop-short
invariant-loop-short l = record {
  summary : IsSummary (map record_of_short (take l.short-index l.shorts))
      (record { lost = marked_short l.sum.0; won = marked_short l.sum.1.0; tied = marked_short l.sum.1.1.0 });
  decided : l.sum.1.1.1.0 ≡ length (filter is_decided (map record_of_short (take l.short-index l.shorts)));
  lost_fits : l.sum.0 ≤ 32;
  won_fits : l.sum.1.0 ≤ 32;
  tied_fits : l.sum.1.1.0 ≤ 32;
}
