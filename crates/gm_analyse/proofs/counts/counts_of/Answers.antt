use Rattle.gm_analyse.proofs.Lower.{◌≡◌, sym, subst, arith, AreCountsBefore}
use Rattle.gm_analyse.proofs.CountLists.{no_counts, value_added}
use Rattle.gm_analyse.proofs.Lists.{Num, num_once, all_counts}
use Rattle.gm_analyse.proofs.counts.counts_of.Goals as goal

pub loop-value-init : goal.loop-value-init
loop-value-init g c =
    let records = c.args.table.now.records in
    subst (AreCountsBefore (Num records) 0 0) (sym c.new-counts.ensures.items) (no_counts (Num records) (num_once records))

pub loop-value-preserved : goal.loop-value-preserved
loop-value-preserved g c =
    let records = c.args.table.now.records in
    value_added (Num records) (num_once records) c.loop-value.value-index _ c.loop-value-test.true c.as_slice.result.now _ c.as_slice.ensures.value
    c.loop-value.counts.items c.push_counts.new.counts.items c.loop-value.invariant c.in_ok-push_counts.ensures c.in_ok-numbers.ensures.numbers

pub returns : goal.returns
returns g c =
    let records = c.args.table.now.records in
    let last : c.loop-value.value-index ≡ 4 = omega arith in
    all_counts records c.loop-value.counts.items (subst (λ n. AreCountsBefore (Num records) n 0 c.loop-value.counts.items) last c.loop-value.invariant)
