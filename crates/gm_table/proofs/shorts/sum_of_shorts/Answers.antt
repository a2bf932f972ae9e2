use Rattle.gm_table.proofs.Lower.{refl, arith, record_of_short}
use Rattle.gm_table.proofs.ReadLemmas.{summary_more, summary_all, decided_more, decided_few}
use Rattle.gm_table.proofs.shorts.sum_of_shorts.Goals as goal

pub with-sum-requires : goal.with-sum-requires
with-sum-requires c =
    let few = decided_few record_of_short c.args.shorts.now c.loop-short.short-index in
    let decided = c.loop-short.invariant.decided in
    let more = c.loop-short-test.true in
    let short = c.requires in
    omega arith

pub loop-short-preserved : goal.loop-short-preserved
loop-short-preserved c =
    let i = c.loop-short.invariant in
    let inside = c.loop-short-test.true in
    record {
      summary = summary_more record_of_short c.args.shorts.now c.loop-short.short-index 0 inside _ refl _ _ c.with-sum.ensures.lost c.with-sum.ensures.won
          c.with-sum.ensures.tied i.summary;
      decided = decided_more record_of_short c.args.shorts.now c.loop-short.short-index 0 inside _ refl _ _ c.with-sum.ensures.decided i.decided;
      lost_fits = c.with-sum.result.lost_fits;
      won_fits = c.with-sum.result.won_fits;
      tied_fits = c.with-sum.result.tied_fits;
    }

pub returns-clause-summary : goal.returns-clause-summary
returns-clause-summary c = summary_all record_of_short c.args.shorts.now c.loop-short.short-index _ _ c.loop-short-test.false c.marked.ensures
    c.marked-2.ensures c.marked-3.ensures c.loop-short.invariant.summary
