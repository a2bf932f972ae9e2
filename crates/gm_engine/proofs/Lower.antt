-- Words that proofs here use.
pub use Rattle.gm_engine.specs.Records.{AreTrueTiers, IsTrueTier, record_with, room, words_of}
pub use Rattle.gm_engine.specs.Refusing.{AreDisordered, HaveTables, IsNotNext}
pub use Rattle.gm_engine.specs.declared.width.Width.{Width}
pub use Rattle.gm_game.specs.Rules.{Rules}
pub use Rattle.gm_game.specs.declared.position.Solved.{Solved}
pub use Rattle.gm_play.specs.Reached.{AreClosed}
pub use Rattle.gm_table.specs.Packed.{unpacked}
pub use Rattle.gm_table.specs.Tables.{TableData}
pub use Rattle.std.proofs.Common.{List, Option, Some, [], ap, arith, drop, get_or, inr, length, map, rules, slice_index_or, subst, suc, sym, take, ℕ, ◌++◌, ◌+◌, ◌<◌, ◌∙◌, ◌∷◌, ◌≡◌, ◌≤◌}
pub use Rattle.std.proofs.lemmas.List.{take_more}
pub use Rattle.std.proofs.lemmas.Option.{slice_get-get_or}
