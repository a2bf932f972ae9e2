-- The words of this crate and the crates below that its proofs use, passed on from one place. Declares nothing.
pub use Rattle.gm_counters.specs.State.{ShardState, pairs_in}
pub use Rattle.gm_counters.specs.Steps.{IsWhole}
pub use Rattle.gm_frontier.specs.Counts.{IsNumberBefore}
pub use Rattle.gm_frontier.specs.Notes.{NoteData}
pub use Rattle.gm_game.specs.Rules.{Rules}
pub use Rattle.gm_game.specs.declared.limits.TheConstants.{REMOTENESS}
pub use Rattle.gm_game.specs.declared.position.Place.{Place}
pub use Rattle.gm_locks.specs.Amounts.{Part}
pub use Rattle.gm_locks.specs.Rounds.{pairs_into}
pub use Rattle.gm_locks.specs.Spots.{Spot, spot_of}
pub use Rattle.std.proofs.Common.{List, Some, ap, arith, length, refl, slice_get, subst, sym, ℕ, ◌+◌, ◌∙◌, ◌≡◌, ◌≤◌}
