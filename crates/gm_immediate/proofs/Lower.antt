-- The words of this crate and the crates below that its proofs use, passed on from one place. Declares nothing.
pub use Rattle.gm_game.specs.Laws.{IsGame}
pub use Rattle.gm_game.specs.Numbers.{AreThere}
pub use Rattle.gm_game.specs.Rules.{Rules, at}
pub use Rattle.gm_game.specs.declared.limits.TheConstants.{REMOTENESS}
pub use Rattle.gm_game.specs.declared.position.Position.{Position}
pub use Rattle.gm_game.specs.declared.position.Solved.{Solved}
pub use Rattle.gm_immediate.specs.OnePass.{IsBlockFound, IsDeliveryIn}
pub use Rattle.gm_table.specs.Solving.{IsTooFar}
pub use Rattle.gm_table.specs.inner.Dealing.{block_in}
pub use Rattle.std.proofs.Common.{List, Option, Some, [], ap, arith, get_or, inl, inr, length, length-append, refl, subst, sym, true, ℕ, ◌++◌, ◌+◌, ◌-◌, ◌<◌, ◌∙◌, ◌∷◌, ◌≡◌, ◌≤◌}
pub use Rattle.std.specs.List.{AllZip, Contains}
