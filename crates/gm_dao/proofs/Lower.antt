-- Words that proofs here use.
pub use Rattle.gm_dao.specs.DaoRules.{can_have_led_here, can_move, corners, dao, dao_rules, least_index_of, legal, slides}
pub use Rattle.gm_dao.specs.inner.MaskSlides.{AreBeforesBelow, AreMovesBelow, came_by_masks, slides_by_masks}
pub use Rattle.gm_dao.specs.laws.BoardFacts.{legal_in}
pub use Rattle.gm_dao.specs.laws.MoveFacts.{move_slide, slide_step}
pub use Rattle.gm_game.proofs.Lists.{contains_none}
pub use Rattle.std.specs.Prelude.{◌%◌, ◌&&◌, ◌++◌, ◌+◌, ◌-◌, ◌/◌, ◌<◌, ◌^◌, ◌∷◌, ◌≡◌, ◌≤◌}
