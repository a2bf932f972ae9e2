-- The words of this crate and the crates below that its proofs use, passed on from one place. Declares nothing.
pub use Rattle.gm_counters.specs.Delivery.{IsPairHere}
pub use Rattle.gm_counters.specs.Good.{IsGood}
pub use Rattle.gm_counters.specs.State.{IsInRange, ShardState, delivered_to}
pub use Rattle.gm_game.specs.Rules.{Rules}
pub use Rattle.gm_game.specs.declared.position.Position.{Position}
pub use Rattle.gm_shard.specs.inner.Masks.{IsPlaceOf}
pub use Rattle.std.proofs.Common.{List, Ok, Result, Some, [], ap, arith, drop, get_or, inl, inr, length, refl, subst, sym, ℕ, ◌+◌, ◌-◌, ◌<◌, ◌↔◌, ◌∙◌, ◌≡◌, ◌≤◌}
pub use Rattle.std.proofs.Math.ListN.{set}
pub use Rattle.std.specs.List.{Contains}
