-- Words of std and of the crates below that contracts and definitions here use.
pub use Rattle.gm_draw.specs.GameSpecs.{GameSpec, game_spec}
pub use Rattle.gm_draw.specs.Pictured.{IsPictured}
pub use Rattle.gm_draw.specs.Pictures.{PictureSpec, player_moves}
pub use Rattle.gm_draw.specs.Points.{number_points}
pub use Rattle.gm_draw.specs.declared.pictured.Style.TheVariants.{Row}
pub use Rattle.gm_draw.specs.laws.Points.{one_point}
pub use Rattle.gm_draw.specs.laws.Rows.{AreNumbers, AreRowed, row_pictured, rowed}
pub use Rattle.gm_game.proofs.Lists.{all_in, any_in, contains_cases, contains_first, contains_none, map_from, map_in}
pub use Rattle.gm_game.proofs.PlainTexts.{plain_decimal}
pub use Rattle.gm_game.proofs.SetLemmas.{same_position}
pub use Rattle.gm_game.specs.Laws.{IsGame}
pub use Rattle.gm_game.specs.Rules.{IsAscending, IsCanonical, IsCanonicalChild, IsParent, Rules, at, children}
pub use Rattle.gm_game.specs.Shown.{IsShown}
pub use Rattle.gm_game.specs.Texts.{IsPaddedText}
pub use Rattle.gm_game.specs.declared.limits.TheConstants.{MOVES, NAME}
pub use Rattle.gm_game.specs.declared.position.End.{End}
pub use Rattle.gm_game.specs.declared.position.End.TheVariants.{Lose, Tie}
pub use Rattle.gm_game.specs.declared.position.Position.{Position}
pub use Rattle.std.proofs.lemmas.Bool.{and_parts}
pub use Rattle.std.proofs.lemmas.Bool.Decides.{nat_tests}
pub use Rattle.std.proofs.lemmas.Grind.{common_steps}
pub use Rattle.std.proofs.lemmas.List.FromFn.{get_or-range_with_len, length-range_with_len}
pub use Rattle.std.specs.Fmt.{decimal, digits}
pub use Rattle.std.specs.List.{Contains, list_all, list_any, range_with_len}
pub use Rattle.std.specs.Prelude.{IsTrue, List, None, Option, Some, codes, nat_le, nat_lt, ℕ}
