use Rattle.gm_find.proofs.Lower.{◌++◌, ◌∷◌, [], ℕ, take, get_or, arith, length-append, take_more}
use Rattle.std.proofs.Common.{length-take}
use Rattle.gm_find.specs.Tries.{IsTry}
use Rattle.gm_find.proofs.ListLemmas.{those_push, those_skip, those_few}
use Rattle.gm_find.proofs.tries.count_tries.Goals.{then-is_try, else-is_try}
use Rattle.gm_find.proofs.tries.count_tries.Goals as goal

pub overflow_add-number : goal.overflow_add-number
overflow_add-number g c =
    let items = c.as_slice-m-items.result.now in
    let few = those_few (IsTry g.G.Game.rules c.args.known.now.position) (take c.loop-m.m-index items) c.loop-m.invariant.0
    c.loop-m.invariant.1 in
    let same = c.loop-m.invariant.2 in
    let cut = length-take c.loop-m.m-index items in
    omega arith

pub loop-m-preserved : goal.loop-m-preserved
loop-m-preserved g c =
    let P : ℕ → Type 0 = IsTry g.G.Game.rules c.args.known.now.position in
    let items = c.as_slice-m-items.result.now in
    let k = c.loop-m.m-index in
    let m = get_or items k 0 in
    let (kept, those, long) = c.loop-m.invariant in
    let more = take_more items k 0 c.loop-m-test.true in
    elim c.if-is_try.branch [
      | then-is_try w ↦ (
        kept ++ m ∷ [],
        rw more (those_push P (take k items) kept m those (c.is_try.ensures.0 w.if-is_try.true)),
        let n = length-append kept (m ∷ []) in let same = w.number-is in omega arith,
      )
      | else-is_try w ↦ (
        kept,
        rw more (those_skip P (take k items) kept m those (λ p. let t = c.is_try.ensures.1 p in let f = w.if-is_try.false in cc)),
        let same = w.number-is in omega arith,
      )
    ]

pub returns-clause-few : goal.returns-clause-few
returns-clause-few g c =
    let items = c.as_slice-m-items.result.now in
    let few = those_few (IsTry g.G.Game.rules c.args.known.now.position) (take c.loop-m.m-index items) c.loop-m.invariant.0
    c.loop-m.invariant.1 in
    let same = c.loop-m.invariant.2 in
    let cut = length-take c.loop-m.m-index items in
    let fits = c.as_slice-m-items.ensures.fits in
    omega arith
