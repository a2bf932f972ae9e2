-- The picture satisfies the laws of pictures.
use Rattle.std.proofs.Common.{◌≡◌, ℕ, ◌<◌, true, refl, ◌∙◌}
use Rattle.gm_game.proofs.BoardLaws.{legal_board}
use Rattle.gm_dao.specs.Lower.{cell_text, board_game, from_point, to_point, move_in, text_length, IsMoveWord, IsPictured, two_points, is_set, pictured_by}
use Rattle.gm_draw.specs.Points.{square_points}
use Rattle.gm_dao.specs.DaoRules.{board_at, dao, dao_rules}
use Rattle.gm_dao.specs.DaoPicture.{dao_picture}
use Rattle.gm_dao.specs.Texts.{step_text, position_text, move_text}
use Rattle.gm_dao.specs.laws.BoardFacts.{legal_in}
use Rattle.gm_dao.specs.laws.MoveFacts.{move_slide}
use Rattle.gm_dao.specs.laws.SlideFacts.{line_within}
use Rattle.gm_dao.specs.laws.TextLaws.{texts_readable}

set : is_set 16 dao_picture ≡ true
unfolding dao_picture square_points
set = refl

step_words : (m : ℕ) → from_point m < 16 → to_point m < 16 → IsMoveWord dao_picture.style dao_picture.points (step_text m)
unfolding step_text dao_picture square_points
step_words m l h = two_points (cell_text 4) 16 (from_point m) (to_point m) l h

pub dao_pictured : IsPictured dao_rules position_text move_text dao_picture
dao_pictured = pictured_by dao_rules position_text move_text 16 dao_picture set texts_readable
    (λ p l. text_length (board_at p.index) ∙ (legal_in (board_at p.index) (legal_board (board_game dao) p l)).cells)
    (λ p m l c. (
    let b = board_at p.index in
    let w = line_within (from_point m) (to_point m) (move_slide b m (move_in dao b m c).can).line in step_words m w.0 w.1))
