-- The words of this crate and the crates below that its proofs use, passed on from one place. Declares nothing.
pub use Rattle.gm_backward.specs.declared.cuts.Cuts.{Cuts}
pub use Rattle.gm_backward.specs.inner.Cuts.{cut_at}
pub use Rattle.gm_backward.specs.inner.Tiling.{AreRecordsOf, tile_at}
pub use Rattle.gm_counters.specs.Good.{IsGood}
pub use Rattle.gm_counters.specs.State.{ShardState}
pub use Rattle.gm_counters.specs.Steps.{place_of}
pub use Rattle.gm_counters.specs.declared.status.Start.{Start}
pub use Rattle.gm_counters.specs.inner.Begin.{AreStarts}
pub use Rattle.gm_frontier.specs.Counts.{IsNumberBefore}
pub use Rattle.gm_frontier.specs.Levels.{IsLevel}
pub use Rattle.gm_frontier.specs.Notes.{NoteData}
pub use Rattle.gm_frontier.specs.Pairs.{pairs_of, piece_of}
pub use Rattle.gm_game.specs.Laws.{IsGame}
pub use Rattle.gm_game.specs.Places.{StandsBefore}
pub use Rattle.gm_game.specs.Records.{IsTrueTable}
pub use Rattle.gm_game.specs.Rules.{Rules, at}
pub use Rattle.gm_game.specs.declared.limits.TheConstants.{REMOTENESS, TIER_SIZE}
pub use Rattle.gm_game.specs.declared.position.Phase.{Phase}
pub use Rattle.gm_game.specs.declared.position.Phase.TheVariants.{Ties, WinLose}
pub use Rattle.gm_game.specs.declared.position.Place.{Place}
pub use Rattle.gm_game.specs.declared.position.Position.{Position}
pub use Rattle.gm_game.specs.declared.position.Solved.{Solved}
pub use Rattle.gm_locks.specs.Rounds.{AreFirst, HasNoneHere, pairs_into}
pub use Rattle.gm_locks.specs.Spots.{Spot, spot_of}
pub use Rattle.gm_table.specs.Solving.{IsTooFar}
pub use Rattle.gm_table.specs.Tables.{AreHeld}
pub use Rattle.std.proofs.Common.{List, Option, Some, [], ap, arith, drop, inl, inr, length, length-append, refl, replicate, slice_get, subst, suc, sym, zero, ℕ, ◌++◌, ◌+◌, ◌-◌, ◌<◌, ◌∙◌, ◌∷◌, ◌≡◌, ◌≤◌}
pub use Rattle.std.proofs.lemmas.Bool.{cases_lt}
pub use Rattle.std.proofs.lemmas.Option.{slice_get-get_or, slice_get_within}
pub use Rattle.std.proofs.lemmas.Result.{IfOk-at_ok}
pub use Rattle.std.specs.List.{Contains}
