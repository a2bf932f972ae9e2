-- Words that proofs here use.
pub use Rattle.gm_game.proofs.Basic.{HasValue_once}
pub use Rattle.gm_game.proofs.Lists.{contains_first, contains_none, map_from, map_in}
pub use Rattle.gm_game.proofs.Steps.{loses_zero, ties_at_end, wins_from}
pub use Rattle.gm_game.specs.Laws.{IsGame}
pub use Rattle.gm_game.specs.Records.{solved}
pub use Rattle.gm_game.specs.Rules.{IsChild, Rules}
pub use Rattle.gm_game.specs.Shown.{IsShown}
pub use Rattle.gm_game.specs.Values.{HasValue, IsTrueValue}
pub use Rattle.gm_game.specs.declared.limits.TheConstants.{REMOTENESS}
pub use Rattle.gm_game.specs.declared.position.End.{End}
pub use Rattle.gm_game.specs.declared.position.Position.{Position}
pub use Rattle.gm_game.specs.declared.position.Solved.{Solved}
pub use Rattle.gm_game.specs.declared.position.Value.{Value}
pub use Rattle.gm_game.specs.declared.position.Value.TheVariants.{Draw, Lose, Tie, Win}
pub use Rattle.gm_play.specs.BestLines.{AreBest}
pub use Rattle.gm_play.specs.BestMoves.{IsBestMove, IsBestOf, IsChoice, IsNoFarther, wanted_from}
pub use Rattle.gm_play.specs.Dialogue.{Advice, IsRightAdvice, Said, closing, reply, text_after, without_return}
pub use Rattle.gm_play.specs.Endings.{winner}
pub use Rattle.gm_play.specs.Firsts.{firsts_onto}
pub use Rattle.gm_play.specs.Lines.{IsLinePlayed, position_after}
pub use Rattle.gm_play.specs.MoveValues.{IsMoveValue, worth_from}
pub use Rattle.gm_play.specs.PlayTexts.{IsMoveOf, rows_from}
pub use Rattle.gm_play.specs.Reached.{AreAllHeld, IsReached}
pub use Rattle.gm_play.specs.Sides.{HasLost, IsEven, IsWonIn}
pub use Rattle.gm_play.specs.declared.move_values.MoveValue.{MoveValue}
pub use Rattle.gm_play.specs.declared.play_line.PlayLine.{PlayLine}
pub use Rattle.gm_play.specs.declared.session.TheConstants.{KEPT, SESSION_BYTES}
pub use Rattle.gm_play.specs.declared.sides.Side.{Side}
pub use Rattle.gm_play.specs.declared.sides.Side.TheVariants.{Computer, You}
pub use Rattle.gm_play.specs.declared.view.Question.{Question}
pub use Rattle.gm_table.specs.Tables.{AreTables, TableData, value_in}
pub use Rattle.std.proofs.Common.{Bool, IfSome, IsSome, List, None, Option, Some, [], ap, append-nil, append_assoc, ap₂, arith, codes, drop, false, get_or, inl, inr, length, map, refl, rules, subst, suc, sym, take, true, zero, ℕ, ◌++◌, ◌+◌, ◌-◌, ◌<◌, ◌∙◌, ◌∷◌, ◌≡◌, ◌≢◌, ◌≤◌, ◌⊎◌}
pub use Rattle.std.proofs.KnownBytes.{Appends-trans}
pub use Rattle.std.proofs.lemmas.Bool.{cases_lt}
pub use Rattle.std.proofs.lemmas.List.{drop_more, length-append, length-take-le, take_all, take_more}
pub use Rattle.std.proofs.lemmas.List.Elements.{All-push, Contains-get_or}
pub use Rattle.std.specs.Io.KnownBytes.{Appends}
pub use Rattle.std.specs.List.{All, Contains, flat_map}
pub use Rattle.std.specs.Prelude.{if◌then◌else◌, ◌==◌}
pub use Rattle.std.specs.Str.{bytes_eq}
