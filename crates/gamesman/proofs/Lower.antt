-- Words that proofs here use.
pub use Rattle.gamesman.specs.Analysing.{AreAnalysisLines}
pub use Rattle.gamesman.specs.Answers.{text_asked}
pub use Rattle.gamesman.specs.Engines.{game_line}
pub use Rattle.gamesman.specs.Filters.{IsOfNone}
pub use Rattle.gamesman.specs.Finds.{AreLinesOf, board_row}
pub use Rattle.gamesman.specs.Games.{GameSpec, game_spec}
pub use Rattle.gamesman.specs.Outputs.{IsCutOff}
pub use Rattle.gamesman.specs.Refusals.{IsUnbuilt}
pub use Rattle.gamesman.specs.Searches.{IsUnsearched, first_of}
pub use Rattle.gamesman.specs.Texts.{IsTextFor}
pub use Rattle.gamesman.specs.Told.{IsMemoryFault, IsPut}
pub use Rattle.gamesman.specs.declared.fault.Fault.{Fault}
pub use Rattle.gamesman.specs.declared.fault.Fault.TheVariants.{AnotherGames, EngineNotRead, InputFailed, NoSuchGame, NoSuchGameInLine, NoSuchIndex, NoSuchPosition, NoSuchPositionInLine, NoSuchTier, NotAnEngine, NotBuilt, NotCanonical, NotLegal, OutOfMemory, OutputClosed, OutputFailed, TooMuchInput}
pub use Rattle.gm_build.specs.Work.{HoldsExactly}
pub use Rattle.gm_command.specs.declared.requests.PositionSearch.{PositionSearch}
pub use Rattle.gm_find.specs.Founds.{AreChosen, IsFound}
pub use Rattle.gm_find.specs.declared.found.Found.{Found}
pub use Rattle.gm_game.specs.Rules.{Rules}
pub use Rattle.gm_game.specs.declared.position.Position.{Position}
pub use Rattle.gm_play.proofs.Parts.{part_after}
pub use Rattle.gm_play.specs.Sessions.{AppendsPart}
pub use Rattle.gm_table.specs.Tables.{TableData}
pub use Rattle.gm_tiers.specs.Orders.{IsOrderFrom}
pub use Rattle.std.proofs.Common.{Bool, Err, List, None, Ok, Option, Result, Some, [], ap, append-nil, append_assoc, arith, drop, false, get_or, inl, inr, length, refl, rules, subst, suc, sym, take, take-append-drop, true, ℕ, ◌++◌, ◌+◌, ◌<◌, ◌∙◌, ◌∷◌, ◌≡◌, ◌≤◌}
pub use Rattle.std.proofs.KnownBytes.{Appends-kept, Appends-trans}
pub use Rattle.std.proofs.lemmas.List.{take_all, take_more}
pub use Rattle.std.proofs.lemmas.List.Elements.{Contains-get_or}
pub use Rattle.std.proofs.lemmas.Result.{IfOk-weaker, err_from_is_err_and, on_ok_weaker}
pub use Rattle.std.specs.Io.KnownBytes.{Appends, Keeps}
pub use Rattle.std.specs.List.{Contains, flat_map}
pub use Rattle.std.specs.Prelude.{max}
