-- Words that proofs here use.
pub use Rattle.gm_find.specs.Finding.{Achieves, IsMatch, IsOnlyAfter, all_positions, positions_in}
pub use Rattle.gm_find.specs.Founds.{IsFound, found_position}
pub use Rattle.gm_find.specs.Lists.{Adds, AreThose, IsFirst}
pub use Rattle.gm_find.specs.Reaching.{IsSearched}
pub use Rattle.gm_find.specs.Rows.{found_row}
pub use Rattle.gm_game.proofs.Lists.{contains_cases, contains_first, contains_later, contains_none}
pub use Rattle.gm_game.specs.Rules.{Rules, at}
pub use Rattle.gm_game.specs.Values.{HasValue, IsTrueValue}
pub use Rattle.gm_game.specs.declared.position.Position.{Position}
pub use Rattle.gm_game.specs.declared.position.Value.TheVariants.{Win}
pub use Rattle.std.proofs.Common.{Bool, List, [], ap, arith, eqb-true, get_or, inl, inr, length, length-append, map, refl, subst, suc, sym, take, true, zero, ℕ, ◌++◌, ◌+◌, ◌-◌, ◌<◌, ◌↔◌, ◌∙◌, ◌∷◌, ◌≡◌}
pub use Rattle.std.proofs.lemmas.List.{take_all, take_more}
pub use Rattle.std.proofs.lemmas.List.Elements.{Contains-append_left, Contains-get_or}
pub use Rattle.std.specs.List.{All, Contains, range_with_len}
pub use Rattle.std.specs.Option.{is_some}
