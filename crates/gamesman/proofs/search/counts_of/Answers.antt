use Rattle.gamesman.proofs.Lower.{List, ℕ, subst, Contains}
use Rattle.gamesman.proofs.Reached.{order_held}
use Rattle.gamesman.proofs.search.counts_of.Goals as goal

pub invariant_of-known : goal.invariant_of-known
invariant_of-known g c =
    let r = g.G.Game.rules in
    let built = c.args.built.now in
    record {
      held = λ tier has. order_held r built.tables built.order r.initial.tier c.requires.order c.requires.held tier
          (subst (λ (ts : List ℕ). Contains ts tier) c.tiers.ensures.value has);
    }
