-- Words that proofs here use.
pub use Rattle.gm_draw.specs.Templates.{spread}
pub use Rattle.std.proofs.Common.{List, ap, arith, drop, length, sym, take, ℕ, ◌++◌, ◌+◌, ◌∙◌, ◌≡◌, ◌≤◌}
pub use Rattle.std.specs.List.{flat_map}
