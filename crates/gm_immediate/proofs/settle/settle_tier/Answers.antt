use Rattle.gm_immediate.proofs.Lower.{ℕ, subst, IsTooFar}
use Rattle.gm_immediate.proofs.settle.settle_tier.Goals as goal

pub returns-clause-near : goal.returns-clause-near
returns-clause-near g c = subst (λ (t : ℕ). IsTooFar g.G.Game.rules t → ⊥) c.of-pass.ensures c.in_ok-records.ensures.near
