use Rattle.gm_table.proofs.Lower.{None}
use Rattle.gm_table.proofs.PackedLemmas.{packed_more, packed_all, near_at}
use Rattle.gm_table.proofs.packed.Packed.of.Goals as goal

pub number_of-requires : goal.number_of-requires
number_of-requires c = near_at c.args.records.now c.loop-known.known-index None c.requires c.loop-known-test.true

pub loop-known-preserved : goal.loop-known-preserved
loop-known-preserved c =
    packed_more c.loop-known.numbers _ c.args.records.now c.loop-known.known-index c.number_of.result None c.loop-known-test.true c.loop-known.invariant
    c.in_ok-push.ensures.ok c.number_of.ensures.number

pub returns : goal.returns
returns c = packed_all c.loop-known.numbers c.args.records.now c.loop-known.known-index c.loop-known-test.false c.loop-known.invariant
