use Rattle.gm_table.proofs.Lower.{◌%◌, [], get_or, arith}
use Rattle.gm_table.specs.declared.cache.Shorts.{Shorts}
use Rattle.gm_table.specs.inner.Caches.{cache_of}
use Rattle.gm_table.proofs.CacheLemmas.{short_read}
use Rattle.gm_table.proofs.cache.TableCache.short.Goals as goal

pub returns-then-index-shorts-clause-short : goal.returns-then-index-shorts-clause-short
returns-then-index-shorts-clause-short g c =
    let self = c.self.inside in
    let slot = c.args.p.tier % 8 in
    let none : Shorts = record { tier = 0; forms = record { ref_ptr = (0, 0); now = [] } } in
    short_read (cache_of self.tables.now self.tier) c.args.self.now c.self.view_is (get_or self.shorts slot none) c.args.p
    (c.self.invariant.forms slot (omega arith) none) c.if-shorts-p.true c.if-index-shorts.true
