use Rattle.gm_frontier.proofs.Lower.{◌∙◌, refl, get_or, IsBelow}
use Rattle.gm_frontier.proofs.LastLemmas.{below_end, below_at}
use Rattle.gm_frontier.proofs.PieceLemmas.{all_more}
use Rattle.gm_frontier.proofs.last.are_below.Goals as goal

pub returns-then-not-is_below : goal.returns-then-not-is_below
returns-then-not-is_below g c = (
  (λ b. absurd (cc)),
  λ below. (let here = below_at g.G.Game.rules c.args.place c.as_slice-tier-items.result.now c.loop-tier.tier-index
      (c.as_slice-tier-items.ensures.value ∙ c.child_tiers.ensures) c.loop-tier-test.true below in
      let is = c.is_below.ensures.1 here in cc),
)

pub loop-tier-preserved : goal.loop-tier-preserved
loop-tier-preserved g c =
    let tiers = c.as_slice-tier-items.result.now in
    all_more (IsBelow g.G.Game.rules c.args.place) tiers c.loop-tier.tier-index (get_or tiers c.loop-tier.tier-index 0)
    0 c.loop-tier-test.true refl c.loop-tier.invariant
    (c.is_below.ensures.0 c.if-not-is_below.false)

pub returns : goal.returns
returns g c = (
  (λ b. below_end g.G.Game.rules c.args.place c.as_slice-tier-items.result.now c.loop-tier.tier-index
      (c.as_slice-tier-items.ensures.value ∙ c.child_tiers.ensures) c.loop-tier-test.false c.loop-tier.invariant),
  λ below. refl,
)
