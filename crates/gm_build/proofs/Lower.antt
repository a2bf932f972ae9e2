-- Words that proofs here use.
pub use Rattle.gm_build.specs.Outcomes.{IsBuildError, IsStopped}
pub use Rattle.gm_build.specs.TrueTexts.{HaveTexts, KeepsOthers}
pub use Rattle.gm_build.specs.Work.{HoldsExactly}
pub use Rattle.gm_build.specs.declared.tier.TierOutcome.TheVariants.{Solved}
pub use Rattle.gm_build.specs.inner.Steps.{IsStepWork, with_tier}
pub use Rattle.gm_game.specs.Rules.{Rules}
pub use Rattle.gm_game.specs.declared.limits.TheConstants.{TIERS}
pub use Rattle.gm_table.specs.Tables.{TableData}
pub use Rattle.gm_tierdb.specs.StoreTexts.{AreSameBut, Texts}
pub use Rattle.gm_tiers.specs.Orders.{IsOrderFrom}
pub use Rattle.std.proofs.Common.{Err, IsTrue, List, Result, Some, [], ap, arith, inl, inr, length, refl, rules, subst, sym, take, ℕ, ◌++◌, ◌+◌, ◌↔◌, ◌∙◌, ◌∷◌, ◌≡◌, ◌≤◌}
pub use Rattle.std.specs.List.{Contains}
