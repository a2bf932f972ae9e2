-- Boards of Dao: formations, images and legal boards.
use Rattle.std.specs.Prelude.{◌≡◌}
use Rattle.gm_pieces.specs.Common.{ℕ, Bool, true, false, not, List, map, length, ap, ◌∙◌, eqb-true, eq-eqb, Contains, not-true, Cell, Empty, and_left, and_right, and_both, turned, image_length, filled_image, permute, square_symmetries, is_mine, is_theirs, number_of, filled_turned, image_number, IsLeft, HasNumbers}
use Rattle.gm_dao.specs.DaoRules.{formations, has_formation, legal}
use Rattle.gm_dao.specs.laws.SlideFacts.{group, formations_kept}

-- ---- formations
-- after the sides are exchanged, a formation of the opponent's is the mover's
pub formation_turned : (b : List Cell) → has_formation is_mine (map turned b) ≡ has_formation is_theirs b
unfolding has_formation
formation_turned b = filled_turned formations b

-- a move of the mover's changes no formation of the opponent's
pub formation_left : (b d : List Cell) (more : ℕ) → IsLeft b d more → has_formation is_theirs d ≡ has_formation is_theirs b
unfolding has_formation
formation_left b d more h = h.filled formations

-- an image has a formation if the board has one
pub image_formation : (p : Cell → Bool) (g : List ℕ) (b : List Cell) → Contains (square_symmetries 4) g → length b ≡ 16 → has_formation p
    (permute Empty g b) ≡ has_formation p b
unfolding has_formation
image_formation p g b c e = filled_image Empty p 16 (square_symmetries 4) formations group formations_kept g c b e

-- ---- legal boards
pub record IsLegal (b : List Cell) : Type 0 where
  pub cells : length b ≡ 16
  pub own : number_of is_mine b ≡ 4
  pub other : number_of is_theirs b ≡ 4
  pub no_formation : has_formation is_mine b ≡ false

-- what holds if the test is passed
pub legal_in : (b : List Cell) → legal b ≡ true → IsLegal b
unfolding legal
legal_in b l =
    let r = and_right _ _ l in
    let s = and_right _ _ r in
    record {
      cells = eqb-true _ _ (and_left _ _ l);
      own = eqb-true _ _ (and_left _ _ r);
      other = eqb-true _ _ (and_left _ _ s);
      no_formation = not-true _ (and_right _ _ s);
    }

-- if that holds, the board is legal
pub legal_from : (b : List Cell) → IsLegal b → legal b ≡ true
unfolding legal
legal_from b h = and_both _ _ (eq-eqb _ _ h.cells) (and_both _ _ (eq-eqb _ _ h.own) (and_both _ _ (eq-eqb _ _ h.other) (ap not h.no_formation)))

-- a legal board has these numbers of cells and pieces
pub legal_numbers : (b : List Cell) → IsLegal b → HasNumbers 16 4 4 b
legal_numbers b h = record { cells = h.cells; own = h.own; other = h.other }

-- an image of a legal board is legal
pub image_legal : (g : List ℕ) (b : List Cell) → Contains (square_symmetries 4) g → legal b ≡ true → legal (permute Empty g b) ≡ true
image_legal g b c l =
    let h = legal_in b l in
    legal_from (permute Empty g b) (record {
      cells = image_length Empty 16 (square_symmetries 4) group g c b;
      own = image_number 16 (square_symmetries 4) group g b c is_mine h.cells ∙ h.own;
      other = image_number 16 (square_symmetries 4) group g b c is_theirs h.cells ∙ h.other;
      no_formation = image_formation is_mine g b c h.cells ∙ h.no_formation;
    })
