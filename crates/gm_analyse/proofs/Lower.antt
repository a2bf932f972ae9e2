-- Words that proofs here use.
pub use Rattle.gm_analyse.specs.Listing.{AreCountsBefore, counted}
pub use Rattle.gm_analyse.specs.Longest.{IsLastAbove}
pub use Rattle.gm_analyse.specs.Numbers.{count_where, number_in}
pub use Rattle.gm_analyse.specs.Tree.{count_tree, name_text}
pub use Rattle.gm_analyse.specs.declared.among.Among.{Among}
pub use Rattle.gm_analyse.specs.declared.by_tier.TierCount.{TierCount}
pub use Rattle.gm_analyse.specs.declared.counts.Count.{Count}
pub use Rattle.gm_find.specs.Finding.{all_positions}
pub use Rattle.gm_game.proofs.Lists.{contains_none}
pub use Rattle.gm_game.specs.Rules.{Rules, at}
pub use Rattle.gm_game.specs.declared.limits.TheConstants.{REMOTENESS}
pub use Rattle.gm_game.specs.declared.position.Position.{Position}
pub use Rattle.gm_game.specs.declared.position.Solved.{Solved}
pub use Rattle.gm_game.specs.declared.position.Value.{Value}
pub use Rattle.std.proofs.Common.{Bool, List, None, Option, Some, [], ap, append_assoc, arith, drop, false, get_or, inl, inr, length, map, refl, subst, suc, sym, take, true, vec_len, ℕ, ◌++◌, ◌+◌, ◌==◌, ◌∙◌, ◌∷◌, ◌≡◌, ◌≤◌}
pub use Rattle.std.proofs.lemmas.List.{append-nil, drop_all, drop_more}
pub use Rattle.std.proofs.lemmas.List.Elements.{Contains-get_or}
pub use Rattle.std.specs.List.{flat_map}
pub use Rattle.std.specs.Option.{is_some}
