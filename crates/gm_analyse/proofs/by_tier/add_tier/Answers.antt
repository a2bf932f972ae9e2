use Rattle.gm_analyse.proofs.Lower.{[], inl, inr, subst, contains_none}
use Rattle.gm_game.proofs.Lists.{contains_cases}
use Rattle.gm_play.specs.Reached.{AreAllHeld}
use Rattle.gm_analyse.proofs.by_tier.add_tier.Goals as goal

pub invariant_of-one : goal.invariant_of-one
invariant_of-one g c = record {
  held = λ tier has. elim (contains_cases c.args.tier tier [] has) [
    | inl e ↦ subst (AreAllHeld g.G.Game.rules c.args.tables.now) e c.requires
    | inr f ↦ absurd (contains_none tier f)
  ];
}
