-- Words that proofs here use.
pub use Rattle.gm_game.proofs.SetLemmas.{same_position}
pub use Rattle.gm_game.specs.Rules.{at}
pub use Rattle.gm_toys.specs.laws.SubtractionLaws.{range_in}
pub use Rattle.std.proofs.Common.{Some, arith, refl, rules, sym, ℕ, ◌↔◌, ◌≡◌}
pub use Rattle.std.specs.Fmt.{decimal}
