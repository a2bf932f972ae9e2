-- Words that proofs here use.
pub use Rattle.gm_game.specs.Rules.{Rules, at}
pub use Rattle.gm_game.specs.declared.position.Position.{Position}
pub use Rattle.gm_json.specs.Answers.{IsAnswer}
pub use Rattle.gm_json.specs.Asking.{kept_bytes}
pub use Rattle.gm_json.specs.Extras.{move_texts_along, parents_in}
pub use Rattle.gm_json.specs.Founds.{found_line}
pub use Rattle.gm_json.specs.Lines.{step_tree, steps_from}
pub use Rattle.gm_json.specs.Moves.{move_trees, position_members}
pub use Rattle.gm_json.specs.Words.{line_of, text, whole}
pub use Rattle.gm_json.specs.inner.Midst.{GoesOn, Midst}
pub use Rattle.gm_json.specs.inner.Parts.{item_text, key_text, member_text}
pub use Rattle.gm_play.specs.BestLines.{AreBest}
pub use Rattle.gm_play.specs.PlayTexts.{value_word}
pub use Rattle.gm_play.specs.declared.move_values.MoveValue.{MoveValue}
pub use Rattle.json.specs.Print.{quoted}
pub use Rattle.serde_json.specs.Data.{Data, Members, member, no_members, string}
pub use Rattle.serde_json.specs.View.{items_of}
pub use Rattle.serde_json.specs.Written.{comma_if, compact_text, items_text, members_text}
pub use Rattle.std.proofs.Common.{Bool, List, None, Option, Some, [], ap, append_assoc, ap₂, arith, codes, drop, false, get_or, inl, inr, length, map, refl, rules, subst, sym, take, true, ℕ, ◌++◌, ◌+◌, ◌<◌, ◌∙◌, ◌∷◌, ◌≡◌, ◌≤◌}
pub use Rattle.std.proofs.lemmas.List.{drop_all, drop_more, length-append, length-take}
pub use Rattle.std.proofs.lemmas.Result.{on_ok_weaker}
pub use Rattle.std.specs.Io.KnownBytes.{Consumes}
pub use Rattle.std.specs.List.{All}
pub use Rattle.std.specs.Prelude.{if◌then◌else◌, ◌==◌}
pub use Rattle.std.specs.Str.Lossy.{utf8_lossy}
