-- Words that proofs here use.
pub use Rattle.gm_find.specs.declared.found.Found.{Found}
pub use Rattle.gm_game.proofs.Lists.{contains_cases, contains_none}
pub use Rattle.gm_game.specs.Rules.{Rules, at}
pub use Rattle.gm_game.specs.Texts.{text_of}
pub use Rattle.gm_game.specs.declared.position.Position.{Position}
pub use Rattle.gm_json.specs.Words.{text}
pub use Rattle.gm_page.specs.Heads.{head_tree}
pub use Rattle.gm_page.specs.Listings.{is_key, place_of, result_of, with_all, with_new}
pub use Rattle.gm_page.specs.Rows.{AreGroups, AreRows, Group, group_tree, move_cells, row_tree}
pub use Rattle.gm_page.specs.Scripts.{script_byte, script_line}
pub use Rattle.gm_page.specs.Solutions.{steps_text}
pub use Rattle.gm_play.specs.BestLines.{AreBest}
pub use Rattle.gm_play.specs.Reached.{IsReached}
pub use Rattle.gm_play.specs.declared.move_values.MoveValue.{MoveValue}
pub use Rattle.serde_json.proofs.Views.{view-Array}
pub use Rattle.serde_json.specs.Data.{Data, array}
pub use Rattle.serde_json.specs.View.{items_of, view}
pub use Rattle.serde_json.specs.Written.{has_float}
pub use Rattle.std.proofs.Common.{Bool, List, None, Option, Some, [], ap, ap₂, arith, cond, drop, false, get_or, inl, inr, length, map, refl, rules, slice_get, subst, suc, sym, take, true, zero, ℕ, ◌++◌, ◌+◌, ◌-◌, ◌<◌, ◌∙◌, ◌∷◌, ◌≡◌, ◌≤◌, ◌⊎◌}
pub use Rattle.std.proofs.lemmas.Bool.{cases_Bool, cases_lt, cond-false, cond-true}
pub use Rattle.std.proofs.lemmas.List.{append-nil, append_assoc, drop_all, drop_more, take_all}
pub use Rattle.std.proofs.lemmas.List.Elements.{Contains-get_or}
pub use Rattle.std.specs.HashMap.{get}
pub use Rattle.std.specs.List.{All, Contains, flat_map}
pub use Rattle.std.specs.Prelude.{codes}
