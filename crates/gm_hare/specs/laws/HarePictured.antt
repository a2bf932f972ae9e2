-- The picture satisfies the laws of pictures: the side to move is not part of the board.
use Rattle.std.proofs.Common.{◌≡◌, ℕ, ◌<◌, Bool, true, false, if◌then◌else◌, eqb, List, length, refl, sym, ap, ap₂, ◌∙◌, arith}
use Rattle.std.specs.Prelude.{◌==◌, codes}
use Rattle.std.specs.List.{Contains}
use Rattle.gm_game.proofs.BoardLaws.{legal_board}
use Rattle.gm_game.specs.declared.position.Position.{Position}
use Rattle.gm_pieces.specs.MoveGames.{board_game}
use Rattle.gm_pieces.specs.Steps.{from_point, to_point}
use Rattle.gm_pieces.specs.laws.MoveLaws.{move_in}
use Rattle.gm_draw.specs.Pictures.{drawn, by_last}
use Rattle.gm_draw.specs.Pictured.{IsMoveWord, IsPictured}
use Rattle.gm_draw.specs.laws.Points.{two_points}
use Rattle.gm_draw.specs.laws.Templates.{is_set, template_fits, same_bytes, pictured_with}
use Rattle.gm_hare.specs.Board.{hunt_board, hare_and_hounds, hare_rules}
use Rattle.gm_hare.specs.HarePicture.{hare_points, hunt_mover, hare_mover, hare_picture}
use Rattle.gm_hare.specs.Texts.{point_name, step_text, hunt_text, position_text, move_text}
use Rattle.gm_hare.specs.laws.MoveFacts.{ends, move_joined}
use Rattle.gm_hare.specs.laws.TextLaws.{marked, board_told, text_told, same_marks, texts_readable}

set : is_set 11 hare_picture ≡ true
unfolding hare_picture hare_points point_name
set = refl

words : (p : Position) (m : ℕ) → hare_rules.is_legal p ≡ true → Contains (hare_rules.moves p) m
    → IsMoveWord hare_picture.style hare_picture.points (move_text p m)
unfolding step_text hare_picture hare_points
words p m l c =
    let k = move_in hare_and_hounds (hunt_board p.index) m c in
    let s = ends m k.below (move_joined (hunt_board p.index) m k.can) in
    two_points point_name 11 (from_point m) (to_point m) s.0 s.1

-- the name of the side to move says the side
mover_told : (x : Bool) → eqb (length (hunt_mover x)) 6 ≡ x
mover_told true = refl
mover_told false = refl

-- the drawing and the side to move say the text
text_drawn : (p q : Position) → hare_rules.is_legal p ≡ true → hare_rules.is_legal q ≡ true
    → drawn hare_picture position_text p ≡ drawn hare_picture position_text q → hare_picture.mover p ≡ hare_picture.mover q → position_text p ≡ position_text q
unfolding hare_picture hunt_text
text_drawn p q l k e m =
    let a = hunt_board p.index in
    let b = hunt_board q.index in
    let same = (λ (j : ℕ) (h : j < 11). same_bytes hare_rules position_text move_text 11 hare_picture set p q j e h) in
    ap hunt_text (sym (text_told a (legal_board (board_game hare_and_hounds) p l))
    ∙ ap (λ (x : Bool). board_told (eqb (if x then 100 else 104) 100) (marked (hunt_text a) 100) (marked (hunt_text a) 104))
    (sym (mover_told a.hounds_move) ∙ ap (λ (t : List ℕ). eqb (length t) 6) m ∙ mover_told b.hounds_move)
    ∙ ap₂ (board_told (eqb (if b.hounds_move then 100 else 104) 100))
    (same_marks (hunt_text a) (hunt_text b) 100 same) (same_marks (hunt_text a) (hunt_text b) 104 same)
    ∙ text_told b (legal_board (board_game hare_and_hounds) q k))

-- the last byte of a text is the side to move
turn_named : (x : Bool) → (if (if x then 100 else 104) == 100 then codes "hounds" else codes "hare") ≡ hunt_mover x
turn_named true = refl
turn_named false = refl

pub hare_named : (p : Position) → by_last (position_text p) 100 (codes "hounds") (codes "hare") ≡ hare_mover p
unfolding hunt_text
hare_named p = turn_named (hunt_board p.index).hounds_move

pub hare_pictured : IsPictured hare_rules position_text move_text hare_picture
unfolding hunt_text
hare_pictured = pictured_with hare_rules position_text move_text 11 hare_picture set (record {
  drawn_fits = λ p l. template_fits hare_rules position_text move_text 11 hare_picture set p;
  drawn_once = λ p q l k e m. texts_readable.shown_once p q l k (text_drawn p q l k e m);
}) (λ p l. omega arith) words
