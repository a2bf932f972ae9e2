-- The pictures satisfy the laws of pictures.
use Rattle.std.proofs.Common.{◌≡◌, ℕ, ◌<◌, true, map, refl, subst, ◌∙◌}
use Rattle.std.proofs.lemmas.Bool.{cond-true}
use Rattle.std.specs.List.{range_with_len}
use Rattle.gm_game.proofs.BoardLaws.{legal_board}
use Rattle.gm_pieces.specs.Common.{arith, move_in, inl, lt-ltb, Contains, board_game, cells_text, text_length, IsShown, texts_are_shown}
use Rattle.gm_pieces.specs.MoveGames.{move_rules}
use Rattle.gm_draw.specs.Pictured.{IsMoveWord, IsPictured}
use Rattle.gm_draw.specs.laws.Points.{named_point}
use Rattle.gm_draw.specs.laws.Templates.{is_set, pictured_by}
use Rattle.gm_connect.specs.declared.size.Size.{Size}
use Rattle.gm_connect.specs.declared.size.Size.TheVariants.{FourByFour, FiveByFour, FourByFive, FourBySix, FiveByFive, SixByFour}
use Rattle.gm_connect.specs.ConnectFour.{board_at, connect_four}
use Rattle.gm_connect.specs.ConnectPicture.{cell_name, cell_names, connect_title, connect_board, connect_picture}
use Rattle.gm_connect.specs.Sizes.{columns, rows, cells}
use Rattle.gm_connect.specs.Texts.{step_text, position_text}
use Rattle.gm_connect.specs.laws.BoardFacts.{wide, legal_in}
use Rattle.gm_connect.specs.laws.ConnectLaws.{numbered}
use Rattle.gm_connect.specs.laws.TextLaws.{readable}

set : (s : Size) → is_set (cells s) (connect_picture s) ≡ true
unfolding connect_picture connect_title connect_board cell_names columns rows
set FourByFour = refl
set FiveByFour = refl
set FourByFive = refl
set FourBySix = refl
set FiveByFive = refl
set SixByFour = refl

-- a move is the cell in the top row of its column
step_word : (s : Size) (c : ℕ) → c < columns s → IsMoveWord (connect_picture s).style (connect_picture s).points (step_text c)
unfolding step_text connect_picture cell_names
step_word s c low =
    let few = wide s in
    inl (subst (Contains (map (cell_name s) (range_with_len 0 (cells s)))) (cond-true _ _ _ (lt-ltb c (columns s) low))
    (named_point (cell_name s) (cells s) c (omega (arith, low, few))))

shown : (s : Size) → IsShown (move_rules (connect_four s)) (position_text s) (λ p c. step_text c)
shown s = texts_are_shown (connect_four s) cells_text (λ t c. step_text c) (numbered s) (readable s)

pub connect_pictured : (s : Size) → IsPictured (move_rules (connect_four s)) (position_text s) (λ p c. step_text c) (connect_picture s)
connect_pictured s = pictured_by (move_rules (connect_four s)) (position_text s) (λ p c. step_text c) (cells s) (connect_picture s) (set s) (shown s)
    (λ p l. text_length (board_at s p.tier p.index) ∙ (legal_in s (board_at s p.tier p.index) (legal_board (board_game (connect_four s)) p l)).cells_are)
    (λ p m l c. step_word s m (move_in (connect_four s) (board_at s p.tier p.index) m c).below)
