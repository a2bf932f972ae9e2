-- Words that proofs here use.
pub use Rattle.gm_frontier.specs.Counts.{IsExpected}
pub use Rattle.gm_frontier.specs.Levels.{AreInOrder, AreRuns, IsBelow, IsChildPart, IsLevel, LevelData, RunData, comes_first, positions}
pub use Rattle.gm_frontier.specs.Notes.{IsNoteAt, NoteData, joined}
pub use Rattle.gm_frontier.specs.Pairs.{is_within, pairs_of, pairs_of_note, piece_of}
pub use Rattle.gm_frontier.specs.inner.Records.{notes_of_tier}
pub use Rattle.gm_frontier.specs.inner.Tallies.{AreCounts, IsTally, TallyData, number_into, numbers_from, tile_count, tile_end, tile_start}
pub use Rattle.gm_game.proofs.Counts.{HasNoRepeats}
pub use Rattle.gm_game.proofs.Lists.{contains_cases, contains_first, contains_later, contains_none, map_from, map_in}
pub use Rattle.gm_game.specs.Children.{is_before}
pub use Rattle.gm_game.specs.Laws.{IsGame}
pub use Rattle.gm_game.specs.Places.{IsLastLevel, StandsAt}
pub use Rattle.gm_game.specs.Rules.{IsAscending, IsCanonical, IsParent, Rules, at}
pub use Rattle.gm_game.specs.Values.{IsTrueValue}
pub use Rattle.gm_game.specs.declared.limits.TheConstants.{TIER_SIZE}
pub use Rattle.gm_game.specs.declared.position.Phase.{Phase}
pub use Rattle.gm_game.specs.declared.position.Phase.TheVariants.{Ties, WinLose}
pub use Rattle.gm_game.specs.declared.position.Place.{Place}
pub use Rattle.gm_game.specs.declared.position.Position.{Position}
pub use Rattle.gm_game.specs.declared.position.Solved.{Solved}
pub use Rattle.gm_game.specs.declared.position.Value.TheVariants.{Draw, Lose, Tie, Win}
pub use Rattle.gm_table.specs.Tables.{TableData}
pub use Rattle.std.proofs.Common.{Bool, List, None, Option, Some, [], ap, ap₂, arith, drop, false, filter, get_or, if◌then◌else◌, inl, inr, length, map, min, refl, rules, slice_get, subst, suc, sum_by, sym, take, true, zero, ℕ, ◌++◌, ◌+◌, ◌-◌, ◌/◌, ◌<◌, ◌^◌, ◌↔◌, ◌∙◌, ◌∷◌, ◌≡◌, ◌≢◌, ◌≤◌, ◌⊎◌}
pub use Rattle.std.proofs.lemmas.Bool.{cases_lt}
pub use Rattle.std.proofs.lemmas.Bool.Decides.{nat_tests}
pub use Rattle.std.proofs.lemmas.List.{drop_all, length-append, length-map, take_all}
pub use Rattle.std.proofs.lemmas.List.Elements.{Contains-append_cases}
pub use Rattle.std.proofs.lemmas.Option.{slice_get-get_or}
pub use Rattle.std.proofs.lemmas.Result.{IfOk-from_err}
pub use Rattle.std.specs.Int.{div_ceil}
pub use Rattle.std.specs.List.{AllByRecursion, Contains, flat_map}
