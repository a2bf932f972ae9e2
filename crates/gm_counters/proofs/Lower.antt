-- The words of this crate and the crates below that its proofs use, passed on from one place. Declares nothing.
pub use Rattle.gm_counters.specs.Delivery.{Delivers, IsPairHere, IsSettledNow, KeepsStatus, next_status}
pub use Rattle.gm_counters.specs.Good.{IsCounter, IsGood, IsShard, IsShardKept, IsWithinLimit}
pub use Rattle.gm_counters.specs.State.{IsInRange, ShardState, delivered_to, pairs_in, with_pair}
pub use Rattle.gm_counters.specs.Status.{HasStatus, In, StatusIs}
pub use Rattle.gm_counters.specs.Steps.{CanDeliver, IsWhole, at_next_level, first_ties}
pub use Rattle.gm_counters.specs.declared.status.Delivery.TheVariants.{Fresh, FreshSettled}
pub use Rattle.gm_counters.specs.declared.status.Refused.TheVariants.{TooFar}
pub use Rattle.gm_counters.specs.declared.status.Start.{Start}
pub use Rattle.gm_counters.specs.declared.status.Status.{Status}
pub use Rattle.gm_counters.specs.declared.status.Status.TheVariants.{Hole, Settled, Undecided}
pub use Rattle.gm_counters.specs.inner.Begin.{first_left, first_state, first_status}
pub use Rattle.gm_counters.specs.inner.Closing.{AreFinal}
pub use Rattle.gm_counters.specs.inner.Logged.{logged}
pub use Rattle.gm_counters.specs.inner.Ordered.{state_by}
pub use Rattle.gm_counters.specs.inner.Queues.{AreDistinct, AreNotesAt, AreSettledAt, IsQueue, IsSettledAt, QueueData}
pub use Rattle.gm_counters.specs.inner.Statuses.{status_numbered}
pub use Rattle.gm_frontier.specs.Notes.{IsNote, NoteData, phase_of}
pub use Rattle.gm_game.proofs.Lists.{contains_cases, contains_first, contains_none}
pub use Rattle.gm_game.specs.Children.{AreAscending, canonical_children_of, with_position}
pub use Rattle.gm_game.specs.Laws.{IsGame}
pub use Rattle.gm_game.specs.Places.{IsLastLevel, StandsAt, StandsBefore}
pub use Rattle.gm_game.specs.Records.{from_end}
pub use Rattle.gm_game.specs.Rules.{IsCanonical, Rules, at}
pub use Rattle.gm_game.specs.Settling.{IsSettled}
pub use Rattle.gm_game.specs.Values.{HasValue, IsTrueValue}
pub use Rattle.gm_game.specs.declared.limits.TheConstants.{MOVES, REMOTENESS, TIER_SIZE}
pub use Rattle.gm_game.specs.declared.position.End.{End}
pub use Rattle.gm_game.specs.declared.position.Phase.{Phase}
pub use Rattle.gm_game.specs.declared.position.Phase.TheVariants.{Ties, WinLose}
pub use Rattle.gm_game.specs.declared.position.Position.{Position}
pub use Rattle.gm_game.specs.declared.position.Solved.{Solved}
pub use Rattle.gm_game.specs.declared.position.Value.{Value}
pub use Rattle.gm_game.specs.declared.position.Value.TheVariants.{Draw, Lose, Tie, Win}
pub use Rattle.std.proofs.Common.{Bool, Err, List, None, Ok, Option, Some, [], ap, arith, get_or, inl, inr, length, length-set, map, refl, replicate, subst, suc, sym, take, true, true≢false, zero, ℕ, ◌++◌, ◌+◌, ◌-◌, ◌<◌, ◌==◌, ◌∙◌, ◌∷◌, ◌≡◌, ◌≢◌, ◌≤◌}
pub use Rattle.std.proofs.lemmas.Bool.{cases_eq, cases_lt}
pub use Rattle.std.proofs.lemmas.List.{get_or-replicate, get_or_append_left, length-map, length-replicate}
pub use Rattle.std.proofs.lemmas.List.Elements.{Contains-append_cases, Contains-append_left, Contains-append_right, Contains-get_or}
pub use Rattle.std.proofs.lemmas.Option.{get_or_from_slice_get, slice_get-get_or, slice_get_within}
pub use Rattle.std.proofs.lemmas.Result.{IfOk-from_err}
pub use Rattle.std.specs.List.{Contains, slice_get, slice_range}
pub use Rattle.std.specs.List.Sorted.{IsNonDecreasing, IsPermutation}
