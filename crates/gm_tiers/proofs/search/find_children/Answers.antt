use Rattle.gm_tiers.proofs.Lower.{Ok, arith, ◌∙◌}
use Rattle.gm_tiers.proofs.StepLemmas.{passed_on}
use Rattle.gm_tiers.proofs.AnswerLemmas.{one_more_comes, ends_here}
use Rattle.gm_tiers.proofs.search.find_children.Goals as goal

pub loop-child-preserved : goal.loop-child-preserved
loop-child-preserved g c = one_more_comes g.G.Game.rules (Ok c.args.found.now.keys) (Ok c.loop-child.found.keys) c.as_slice-child-items.result.now
    c.loop-child.child-index (omega arith) c.loop-child.invariant
    ∙ c.in_ok-find.ensures

pub returns-in_err-find : goal.returns-in_err-find
returns-in_err-find g c = passed_on c.from_residual.result c.find.result c.in_err-find.field-0.0 _ _ _ _ c.from_residual.ensures.1 c.in_err-find.was
    c.find.ensures
    (ends_here g.G.Game.rules (Ok c.args.found.now.keys) (Ok c.loop-child.found.keys) c.in_err-find.field-0.0 c.as_slice-child-items.result.now
    (g.G.Game.rules.child_tiers c.args.tier) c.loop-child.child-index
    (c.as_slice-child-items.ensures.value ∙ c.child_tiers-children.ensures) (omega arith) c.loop-child.invariant)
