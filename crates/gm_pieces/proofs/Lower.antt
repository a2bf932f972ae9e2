-- Words that proofs here use.
pub use Rattle.gm_game.specs.Ascending.{put_all}
pub use Rattle.gm_game.specs.Boards.{least_index, next_images}
pub use Rattle.gm_game.specs.Children.{HasSame}
pub use Rattle.gm_game.specs.declared.position.Position.{Position}
pub use Rattle.gm_pieces.specs.MoveGames.{board_game, move_rules}
pub use Rattle.gm_pieces.specs.inner.MoveChildren.{position_after}
pub use Rattle.gm_pieces.specs.inner.Tried.{edge}
pub use Rattle.gm_pieces.specs.laws.MoveLaws.{move_game_lawful}
pub use Rattle.gm_pieces.specs.laws.TriedFacts.{edge_past}
pub use Rattle.std.proofs.Common.{List, [], ap, ap₂, arith, length, map, subst, sym, take, ℕ, ◌∙◌}
pub use Rattle.std.specs.List.{filter, range_with_len}
pub use Rattle.std.specs.Prelude.{◌++◌, ◌+◌, ◌<◌, ◌∷◌, ◌≡◌, ◌≤◌}
