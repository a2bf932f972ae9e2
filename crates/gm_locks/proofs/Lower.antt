-- The words of this crate and the crates below that its proofs use, passed on from one place. Declares nothing.
pub use Rattle.gm_counters.specs.Delivery.{Delivers, IsAdded}
pub use Rattle.gm_counters.specs.State.{IsInRange, ShardState, delivered_to, pairs_in, with_pair}
pub use Rattle.gm_counters.specs.declared.status.Delivery.{Delivery}
pub use Rattle.gm_counters.specs.declared.status.Refused.{Refused}
pub use Rattle.gm_frontier.specs.Notes.{NoteData}
pub use Rattle.gm_frontier.specs.Pairs.{piece_of}
pub use Rattle.gm_game.specs.Rules.{Rules}
pub use Rattle.gm_game.specs.declared.position.Position.{Position}
pub use Rattle.gm_locks.specs.Pieces.{IsTurnAt, PiecedData, piece_pairs}
pub use Rattle.gm_locks.specs.Rounds.{AreFirst}
pub use Rattle.gm_locks.specs.Spots.{Spot, spot_of}
pub use Rattle.std.proofs.Common.{Err, List, Ok, Result, Some, ap, arith, false, get_or, inl, inr, length, refl, slice_get, subst, sym, true, ℕ, ◌+◌, ◌-◌, ◌<◌, ◌∙◌, ◌≡◌, ◌≤◌, ◌⊎◌}
pub use Rattle.std.specs.List.{Contains}
