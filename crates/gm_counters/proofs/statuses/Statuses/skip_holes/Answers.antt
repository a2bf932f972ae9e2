use Rattle.gm_counters.proofs.Lower.{◌≡◌, ℕ, List, slice_range, length, replicate, get_or, arith, sym, subst}
use Rattle.std.specs.List.{starts_with}
use Rattle.std.proofs.Common.{eqb}
use Rattle.gm_counters.proofs.NumberLemmas.{eight_more, zero_more, zeros_are_holes}
use Rattle.gm_counters.proofs.statuses.Statuses.skip_holes.Goals as goal

pub loop-k-preserved : goal.loop-k-preserved
loop-k-preserved c =
    let (low, high, old) = c.loop-k.invariant in
    let bound = c.starts_with.ensures.bound c.loop-k-test.true in
    let read = subst (λ (numbers : List ℕ). c.starts_with.result ≡ starts_with eqb (slice_range numbers c.loop-k.k (length numbers)) (replicate 8 0))
    c.deref.ensures.value c.starts_with.ensures.value in (
      omega arith,
      omega arith,
      eight_more c.self.inside.numbers.items c.args.from c.loop-k.k c.starts_with.result read c.loop-k-test.true (omega arith) old,
    )

pub loop-k-2-preserved : goal.loop-k-2-preserved
loop-k-2-preserved c =
    let (low, high, old) = c.loop-k-2.invariant in (
      omega arith,
      omega arith,
      zero_more c.self.inside.numbers.items c.args.from c.loop-k-2.k
          (sym (subst (λ (n : ℕ). n ≡ get_or c.self.inside.numbers.items c.loop-k-2.k n) c.if-index-eq-HOLE.true c.index.ensures)) old,
    )

pub returns-else-index-eq-HOLE-clause-holes : goal.returns-else-index-eq-HOLE-clause-holes
returns-else-index-eq-HOLE-clause-holes c k low high =
    let (_, inside, zeros) = c.loop-k-2.invariant in
    zeros_are_holes c.self.inside.numbers.items c.args.self.now c.args.from c.loop-k-2.k k c.self.view_is inside zeros low high

pub returns-after-loop-k-2-clause-holes : goal.returns-after-loop-k-2-clause-holes
returns-after-loop-k-2-clause-holes c k low high =
    let (_, inside, zeros) = c.loop-k-2.invariant in
    zeros_are_holes c.self.inside.numbers.items c.args.self.now c.args.from c.loop-k-2.k k c.self.view_is inside zeros low high
