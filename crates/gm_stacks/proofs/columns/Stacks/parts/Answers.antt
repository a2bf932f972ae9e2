use Rattle.std.proofs.Common.{arith}
use Rattle.gm_stacks.specs.laws.SplitRanks.{some_ways, middle_below, outer_below}
use Rattle.gm_stacks.proofs.columns.Stacks.parts.Goals as goal

pub digits-high-requires : goal.digits-high-requires
digits-high-requires c = rw c.stackings.ensures.value
    (some_ways c.args.self.rows c.args.self.columns c.args.self.middle c.args.outer c.args.middle c.args.self.inside c.args.rank c.requires.rank)

pub invariant_of-middle : goal.invariant_of-middle
invariant_of-middle c = record {
  low = c.args.self.low;
  narrow = (let i = c.args.self.inside in let n = c.args.self.narrow in omega (arith, i, n));
  few = (let f = c.requires.few in omega (arith, f));
  below = rw (c.digits-high.ensures.high, c.stackings.ensures.value)
      (middle_below c.args.self.rows c.args.self.columns c.args.self.middle c.args.outer c.args.middle c.args.self.inside c.args.rank c.requires.rank);
}

pub invariant_of-outer : goal.invariant_of-outer
invariant_of-outer c = record {
  low = c.args.self.low;
  narrow = (let n = c.args.self.narrow in omega (arith, n));
  few = (let f = c.requires.few in omega (arith, f));
  below = rw (c.digits-high.ensures.low, c.stackings.ensures.value)
      (outer_below c.args.self.rows c.args.self.columns c.args.self.middle c.args.outer c.args.middle c.args.self.inside c.args.rank c.requires.rank);
}
