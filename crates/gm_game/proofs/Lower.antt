-- Words of std and of the definitions that proofs here use.
pub use Rattle.gm_game.specs.Ascending.{put_all}
pub use Rattle.gm_game.specs.Children.{AreAscending, IsSetOf, is_before, is_same, with_position}
pub use Rattle.gm_game.specs.Evaluation.{IsEvaluated, evaluated}
pub use Rattle.gm_game.specs.Laws.{IsGame}
pub use Rattle.gm_game.specs.Places.{IsPlaceBefore, StandsAt}
pub use Rattle.gm_game.specs.Records.{all_won, from_end, greater, least_of, lesser, lost_in, settled_by, solved, tied_in, won_in}
pub use Rattle.gm_game.specs.Rules.{IsCanonical, IsCanonicalChild, IsChild, Rules, at, children}
pub use Rattle.gm_game.specs.Settling.{AreReached, IsLeast, IsSettled, NoneLost}
pub use Rattle.gm_game.specs.Values.{HasValue, IsTrueValue, loses, ties, wins}
pub use Rattle.gm_game.specs.declared.position.End.{End}
pub use Rattle.gm_game.specs.declared.position.Phase.{Phase}
pub use Rattle.gm_game.specs.declared.position.Phase.TheVariants.{Ties, WinLose}
pub use Rattle.gm_game.specs.declared.position.Position.{Position}
pub use Rattle.gm_game.specs.declared.position.Solved.{Solved}
pub use Rattle.gm_game.specs.declared.position.Value.{Value}
pub use Rattle.gm_game.specs.declared.position.Value.TheVariants.{Draw, Lose, Tie, Win}
pub use Rattle.std.proofs.Common.{Bool, Contains, List, None, Option, Some, [], ap, arith, false, get_or, inl, inr, is_some, length, map, refl, subst, suc, sym, take, true, zero, ℕ, ⊎_elim, ◌&&◌, ◌++◌, ◌+◌, ◌-◌, ◌<◌, ◌^◌, ◌↔◌, ◌∙◌, ◌∷◌, ◌≡◌, ◌≢◌, ◌≤◌, ◌⊎◌}
pub use Rattle.std.proofs.lemmas.Bool.{cases_lt, false_from_ne_true}
pub use Rattle.std.proofs.lemmas.Bool.Decides.{nat_tests}
pub use Rattle.std.specs.List.{list_all, slice_get}
