use Rattle.gm_table.proofs.Lower.{arith, inl, inr, cases_lt}
use Rattle.gm_table.proofs.HoleLemmas.{eight_holes}
use Rattle.gm_table.proofs.numbers.skip_eights.Goals as goal

pub loop-index-preserved : goal.loop-index-preserved
loop-index-preserved c =
    let i = c.loop-index.index in
    let (low, high, holes) = c.loop-index.invariant in
    let (inside, more) = eight_holes c.args.shorts.now i c.starts_with.result high c.starts_with.ensures.value c.loop-index-test.true in (
      omega arith,
      inside,
      λ k from to. elim (cases_lt k i) [
        | inl l ↦ holes k from l
        | inr m ↦ more k (omega arith) to
      ],
    )
