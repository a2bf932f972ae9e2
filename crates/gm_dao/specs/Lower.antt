-- Words of std and of the crates below that contracts and definitions here use.
pub use Rattle.gm_board.specs.Arrangements.{arrangements}
pub use Rattle.gm_board.specs.BoardMasks.{pattern_mask}
pub use Rattle.gm_board.specs.Images.{board_of, image_mask}
pub use Rattle.gm_board.specs.inner.Leaders.{IsLeader}
pub use Rattle.gm_board.specs.Masks.{has_cell}
pub use Rattle.gm_board.specs.Pieces.{mine_mask}
pub use Rattle.gm_board.specs.Squares.{cell_in, cell_text}
pub use Rattle.gm_board.specs.declared.cell.Cell.TheVariants.{Theirs}
pub use Rattle.gm_board.specs.declared.square.TheConstants.{SQUARE_4}
pub use Rattle.gm_draw.specs.GameSpecs.{GameSpec, game_spec}
pub use Rattle.gm_draw.specs.Pictured.{IsMoveWord, IsPictured}
pub use Rattle.gm_draw.specs.Pictures.{PictureSpec, x_moves}
pub use Rattle.gm_draw.specs.Points.{square_naming, square_points}
pub use Rattle.gm_draw.specs.declared.pictured.Style.TheVariants.{Stones}
pub use Rattle.gm_draw.specs.laws.Points.{two_points}
pub use Rattle.gm_draw.specs.laws.Templates.{is_set, pictured_by}
pub use Rattle.gm_game.specs.Ascending.{put_all}
pub use Rattle.gm_game.specs.Boards.{next_images}
pub use Rattle.gm_game.specs.Children.{set_of}
pub use Rattle.gm_game.specs.Rules.{Rules}
pub use Rattle.gm_game.specs.declared.position.End.{End}
pub use Rattle.gm_game.specs.declared.position.Position.{Position}
pub use Rattle.gm_pieces.specs.MoveGames.{MoveGame, before_at, befores, board_game, move_rules, steps}
pub use Rattle.gm_pieces.specs.SideTexts.{cells_text}
pub use Rattle.gm_pieces.specs.Sides.{WasStep, board_index, board_numbered, brought_back, mover_gone, least_index_under}
pub use Rattle.gm_pieces.specs.Steps.{from_point, to_point}
pub use Rattle.gm_pieces.specs.laws.MoveLaws.{move_in}
pub use Rattle.gm_pieces.specs.laws.SideTextFacts.{text_length}
pub use Rattle.std.specs.List.{filter, filter_map, list_all, list_any, range_with_len}
pub use Rattle.std.specs.Prelude.{IfSome, MatchOption, None, Option, Some, codes, map, max, nat_le, nat_lt, not}
