use Rattle.gm_table.proofs.Lower.{◌≡◌, map, take, record_of_short}
use Rattle.gm_table.specs.inner.Caches.{AreRead}
use Rattle.gm_table.proofs.cache.TableCache.sum_by_shorts.Given as goal

abbrev pub invariant-loop-p : goal.invariant-loop-p
invariant-loop-p g l = record {
  same : l.self ≡ l.fn.self;
  read : AreRead l.fn.self (take l.p-index l.positions) (map record_of_short l.shorts.items);
}
