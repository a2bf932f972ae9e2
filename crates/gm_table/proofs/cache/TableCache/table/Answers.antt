use Rattle.gm_table.proofs.Lower.{◌≡◌, ◌%◌, option_copied, sym, subst, ◌∙◌, arith, CacheData, other_table}
use Rattle.gm_table.specs.inner.Caches.{cache_of}
use Rattle.gm_table.proofs.CacheLemmas.{known_table, still_cached, else_table}
use Rattle.gm_table.proofs.cache.TableCache.table.Goals as goal

pub returns-then-is_of-clause-table : goal.returns-then-is_of-clause-table
returns-then-is_of-clause-table g c =
    let self = c.self.inside in
    subst (λ (k : CacheData). option_copied c.index-last-slot.result ≡ other_table k c.args.tier) c.self.view_is
    (known_table (cache_of self.tables.now self.tier) self.last self.shorts c.self.invariant (c.args.tier % 8) c.args.tier (omega arith)
    c.index-last-slot.result c.index-last-slot.is (c.is_of.ensures c.if-is_of.true))

pub invariant_of-self : goal.invariant_of-self
invariant_of-self g c =
    let self = c.self.inside in
    let cache = cache_of self.tables.now self.tier in
    let found = c.table-found.ensures.value ∙ else_table cache c.args.tier c.if-tier-self.false in
    still_cached cache self.last self.shorts c.self.invariant (c.args.tier % 8) c.args.tier (omega arith) c.table-found.result _ found
    (λ i l. let (t, held, is) = c.shorts_of.ensures i l in (t, sym found ∙ held, is))
