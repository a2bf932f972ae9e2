-- Words that proofs here use.
pub use Rattle.gm_game.proofs.Lists.{contains_none}
pub use Rattle.gm_game.specs.Rules.{Rules}
pub use Rattle.gm_game.specs.declared.limits.TheConstants.{TIERS}
pub use Rattle.gm_tiers.specs.Limits.{AreFound, AreWithin, HasTooMany}
pub use Rattle.gm_tiers.specs.Search.{comes_to_all, goes_through}
pub use Rattle.gm_tiers.specs.declared.tier_error.TierError.TheVariants.{TierTooLarge, TooManyTiers}
pub use Rattle.std.proofs.Common.{List, Ok, [], ap, arith, false, get_or, length, map, refl, subst, suc, sym, take, ℕ, ⊎_elim, ◌-◌, ◌<◌, ◌∙◌, ◌∷◌, ◌≡◌, ◌≢◌, ◌≤◌, ◌⊎◌}
pub use Rattle.std.proofs.lemmas.Bool.{cases_lt}
pub use Rattle.std.specs.List.{AllPairs, Contains}
