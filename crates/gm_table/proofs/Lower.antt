-- The words of this crate and the crates below that its proofs use, passed on from one place. Declares nothing.
pub use Rattle.gm_game.proofs.Lists.{contains_first, contains_later, contains_none}
pub use Rattle.gm_game.specs.Children.{AreResults}
pub use Rattle.gm_game.specs.Laws.{IsGame}
pub use Rattle.gm_game.specs.Records.{IsRecord}
pub use Rattle.gm_game.specs.Rules.{IsAscending, IsCanonical, Rules, at}
pub use Rattle.gm_game.specs.Values.{IsTrueValue}
pub use Rattle.gm_game.specs.declared.limits.TheConstants.{REMOTENESS}
pub use Rattle.gm_game.specs.declared.position.Phase.{Phase}
pub use Rattle.gm_game.specs.declared.position.Phase.TheVariants.{Ties, WinLose}
pub use Rattle.gm_game.specs.declared.position.Position.{Position}
pub use Rattle.gm_game.specs.declared.position.Solved.{Solved}
pub use Rattle.gm_table.specs.Checks.{FitBetween, IsFirstWrong, RecordFits, look_up}
pub use Rattle.gm_table.specs.Levels.{greatest_of, indexes_at, level_in}
pub use Rattle.gm_table.specs.Numbers.{wide}
pub use Rattle.gm_table.specs.Packed.{unpacked}
pub use Rattle.gm_table.specs.Tables.{AreKept, AreTables, IsHeld, IsTable, TableData, record_at, record_of, table_of, value_in}
pub use Rattle.gm_table.specs.declared.summary.Summary.{Summary}
pub use Rattle.gm_table.specs.inner.Caches.{CacheData, other_table}
pub use Rattle.gm_table.specs.inner.Runs.{run_in}
pub use Rattle.gm_table.specs.inner.Shorts.{IsSummary, is_decided, record_of_short}
pub use Rattle.std.proofs.Common.{Bool, IfSome, IsSome, List, None, Option, Some, [], ap, arith, cond, eq-eqb, eqb-true, false, get_or, if◌then◌else◌, inl, inr, length, map, ne_eqb, option_copied, refl, replicate, rules, set, slice_get, subst, suc, sym, take, true, zero, ℕ, ◌%◌, ◌++◌, ◌+◌, ◌-◌, ◌/◌, ◌<◌, ◌==◌, ◌↔◌, ◌∙◌, ◌∷◌, ◌≡◌, ◌≢◌, ◌≤◌, ◌⊎◌}
pub use Rattle.std.proofs.lemmas.Bool.{cases_lt}
pub use Rattle.std.proofs.lemmas.List.{length-map, length-take, map-append, take_all, take_more}
pub use Rattle.std.proofs.lemmas.Option.{same_Some, slice_get-get_or}
pub use Rattle.std.specs.List.{Contains}
