use Rattle.gamesman.proofs.Lower.{ℕ, List, get_or, subst, ◌∙◌, Contains, take_all, Contains-get_or, AreAnalysisLines}
use Rattle.gamesman.proofs.Analyses.{lines_next}
use Rattle.gamesman.proofs.analyse.analysis_lines.Goals as goal

pub push_line-requires : goal.push_line-requires
push_line-requires g c =
    let tiers = c.tiers-tier-items.result.now in
    let k = c.loop-tier.tier-index in
    (c.requires (get_or tiers k 0)).1 (subst (λ (l : List ℕ). Contains l (get_or tiers k 0)) c.tiers-tier-items.ensures.value
    (Contains-get_or tiers k 0 c.loop-tier-test.true))

pub loop-tier-preserved : goal.loop-tier-preserved
loop-tier-preserved g c =
    lines_next g.G.Game.rules c.tiers-tier-items.result.now c.loop-tier.tier-index c.loop-tier.lines.items c.push_line.new.lines.items c.loop-tier-test.true
    c.loop-tier.invariant c.in_ok-push_line.ensures

pub returns : goal.returns
returns g c =
    let tiers = c.tiers-tier-items.result.now in
    subst (λ (ts : List ℕ). AreAnalysisLines g.G.Game.rules ts c.loop-tier.lines.items)
    (take_all c.loop-tier.tier-index tiers c.loop-tier-test.false ∙ c.tiers-tier-items.ensures.value) c.loop-tier.invariant
