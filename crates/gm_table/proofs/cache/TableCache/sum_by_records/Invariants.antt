use Rattle.gm_table.proofs.Lower.{◌≡◌, ◌≤◌, take}
use Rattle.gm_table.specs.inner.Caches.{IsSumOf}
use Rattle.gm_table.proofs.cache.TableCache.sum_by_records.Given as goal

abbrev pub invariant-loop-p : goal.invariant-loop-p
invariant-loop-p g l = record {
  same : l.self ≡ l.fn.self;
  few : l.decided ≤ l.p-index;
  sum : IsSumOf l.fn.self (take l.p-index l.positions) l.seen l.decided;
}
