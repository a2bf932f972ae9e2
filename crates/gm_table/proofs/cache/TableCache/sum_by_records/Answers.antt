use Rattle.gm_table.proofs.Lower.{◌≡◌, ℕ, Option, Some, IsSome, get_or, refl, ap, subst, ◌∙◌, ◌+◌, ◌≤◌, Bool, true, false, cond, arith, TableData, record_of, at, is_decided, CacheData, other_table}
use Rattle.gm_table.proofs.CacheLemmas.{sum_more}
use Rattle.gm_table.proofs.cache.TableCache.sum_by_records.Goals as goal

at_most_one : (b : Bool) → cond b 1 0 ≤ 1
at_most_one true = omega arith
at_most_one false = omega arith

pub loop-p-preserved : goal.loop-p-preserved
loop-p-preserved g c =
    let i = c.loop-p.invariant in
    let p = get_or c.args.positions.now c.loop-p.p-index (at 0 0) in
    let held = subst (λ (k : CacheData). Some c.in_ok-table.field-0.now ≡ other_table k p.tier) i.same c.in_ok-table.ensures.table in
    let few = i.few in
    let tested = c.count_decided.ensures in
    let count = ap (λ (n : ℕ). c.loop-p.decided + n) tested in
    let one = at_most_one (is_decided c.at-known.result) in
    record {
      same = c.in_ok-table.ensures.same ∙ i.same;
      few = omega (arith, few, one, tested);
      sum = sum_more c.args.self.now c.args.positions.now c.loop-p.p-index (at 0 0) c.loop-p.seen c.with-seen.result c.loop-p.decided _ c.at-known.result
          c.loop-p-test.true (subst IsSome held refl) (c.at-known.ensures.value ∙ ap (λ (o : Option TableData). record_of o p.index) held)
          c.with-seen.ensures.lost c.with-seen.ensures.won c.with-seen.ensures.tied count i.sum;
    }
