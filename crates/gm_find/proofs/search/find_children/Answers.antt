use Rattle.std.proofs.lemmas.Result.{IfOk-from_err}
use Rattle.std.proofs.lemmas.List.{drop_all, drop_more}
use Rattle.gm_find.proofs.Searching.{taken}
use Rattle.gm_find.proofs.search.find_children.Goals as goal

pub loop-child-init : goal.loop-child-init
loop-child-init g c h =
    taken g.G.Game.rules g.met.G.Game.lawful c.args.found.now.keys c.args.waiting.now.items c.args.p h c.as_slice-child-items.result.now
    (λ d. rw c.as_slice-child-items.ensures.value (c.canonical_children-children.ensures.exact.exact d))

pub loop-child-preserved : goal.loop-child-preserved
loop-child-preserved g c h =
    let more = drop_more c.as_slice-child-items.result.now c.loop-child.child-index _ c.loop-child-test.true in
    c.in_ok-find.ensures _ (rw more at (c.loop-child.invariant h))

pub returns : goal.returns
returns g c h =
    rw (drop_all c.loop-child.child-index c.as_slice-child-items.result.now c.loop-child-test.false) at (c.loop-child.invariant h)

pub returns-in_err-find : goal.returns-in_err-find
returns-in_err-find g c h = IfOk-from_err c.from_residual.result _ c.from_residual.ensures.0
