use Rattle.gm_analyse.proofs.Lower.{ℕ, List, [], ◌++◌, map, get_or, refl, sym, ap, subst, ◌∙◌, append-nil, append_assoc, drop_all, Contains-get_or, Some, is_some, TierCount, drop_more}
use Rattle.gm_analyse.specs.ByTier.{AreTierRows, with_tier}
use Rattle.gm_analyse.proofs.by_tier.rows_by_tier.Goals as goal

pub add_tier-requires : goal.add_tier-requires
add_tier-requires g c =
    let known = c.args.known.now in
    known.held (get_or known.tiers.now c.loop-tier.tier-index 0) (Contains-get_or known.tiers.now c.loop-tier.tier-index 0 c.loop-tier-test.true)

pub loop-tier-init : goal.loop-tier-init
loop-tier-init g c rest are =
    subst (λ (rows : List TierCount). AreTierRows g.G.Game.rules c.args.among (is_some c.args.reached) c.args.known.now.tiers.now (rows ++ rest))
    (sym c.new-rows.ensures.items) are

pub loop-tier-preserved : goal.loop-tier-preserved
loop-tier-preserved g c rest are =
    let Are : List ℕ → List TierCount → Type 0 = AreTierRows g.G.Game.rules c.args.among (is_some c.args.reached) in
    let tiers = c.args.known.now.tiers.now in
    let k = c.loop-tier.tier-index in
    let old = c.loop-tier.rows.items in
    let (counts, is, e) = c.in_ok-add_tier.ensures in
    let more = map (with_tier (Some (get_or tiers k 0))) counts in
    subst (Are tiers) (sym (ap (λ (rows : List TierCount). rows ++ rest) e ∙ append_assoc old more rest))
    (c.loop-tier.invariant (more ++ rest) (subst (λ (ts : List ℕ). Are ts (more ++ rest)) (sym (drop_more tiers k 0 c.loop-tier-test.true))
    (counts, rest, is, are, refl)))

pub returns : goal.returns
returns g c =
    let Are : List ℕ → List TierCount → Type 0 = AreTierRows g.G.Game.rules c.args.among (is_some c.args.reached) in
    let tiers = c.args.known.now.tiers.now in
    subst (Are tiers) (append-nil c.loop-tier.rows.items)
    (c.loop-tier.invariant [] (subst (λ (ts : List ℕ). Are ts []) (sym (drop_all c.loop-tier.tier-index tiers c.loop-tier-test.false)) refl))
