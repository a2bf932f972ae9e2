-- What a move of Dao leaves, and the moves and ends of images.
use Rattle.std.specs.Prelude.{◌≡◌, ◌<◌}
use Rattle.gm_pieces.specs.Common.{ℕ, Bool, true, cond, List, map, length, get_or, set, None, Some, refl, sym, ap, ap₂, ◌∙◌, arith, ltb, ltb-true, Contains, length-map, Lose, Win, Cell, Empty, Mine, all_from, and_left, and_right, and_both, turned, image_back, image_slide, any_at, fills, same_tests, any_from, permute, all_at, square_symmetries, step_number, from_point, to_point, from_back, to_back, IsMove, is_mine, is_theirs, is_empty, is_taken, cell_at, mover_gone, step_left, permute_turned, mine_turned, theirs_turned, image_cell, image_fills}
use Rattle.gm_dao.specs.DaoRules.{corners, around, is_trapped, has_trapped, path, beyond, can_move, end_by_last_move, play, legal, dao}
use Rattle.gm_dao.specs.laws.SlideFacts.{group, corner_kept, line_within, way, line_kept}
use Rattle.gm_dao.specs.laws.BoardFacts.{formation_turned, formation_left, image_formation, legal_in, legal_from}
use Rattle.gm_dao.specs.laws.MoveFacts.{IsSlide, slide_step, move_slide, slide_move, line_below, no_formation}

-- a move leads to a legal board
pub play_legal : (b : List Cell) (m : ℕ) → legal b ≡ true → IsMove dao b m → legal (play b m) ≡ true
unfolding play
play_legal b m l k =
    let h = legal_in b l in
    let d = set (set b (from_point m) Empty) (to_point m) Mine in
    let x = step_left b (from_point m) (to_point m) (slide_step b (from_point m) (to_point m) h.cells (move_slide b m k.can)) in
    let o = theirs_turned d in
    legal_from (map turned d) (record {
      cells = length-map d turned ∙ x.cells ∙ h.cells;
      own = mine_turned d ∙ x.other ∙ h.other;
      other = omega (arith, o, x.own, h.own);
      no_formation = formation_turned d ∙ formation_left b d 0 x ∙ no_formation b k.not_over;
    })

-- ---- slides of images
-- a slide on the board is a slide in the image
image_slides : (g : List ℕ) (b : List Cell) (i j : ℕ) → Contains (square_symmetries 4) g → i < 16 → j < 16 → IsSlide b (get_or g i 0) (get_or g j 0) →
    IsSlide (permute Empty g b) i j
image_slides g b i j c li lj h =
    let k = line_kept g i j c li lj h.line in
    let w = way i j k.line in
    record {
      mine = image_cell 16 (square_symmetries 4) group g b c i li ∙ h.mine;
      line = k.line;
      clear = image_fills 16 (square_symmetries 4) group g b c is_empty (path i j) w.path_within ∙ ap (fills Empty is_empty b) k.path_kept ∙ h.clear;
      stopped = image_fills 16 (square_symmetries 4) group g b c is_taken (beyond i j) w.beyond_within ∙ ap (fills Empty is_taken b) k.beyond_kept ∙ h.stopped;
    }

-- a move that can be made has an image that can be made in the image
image_step : (g : List ℕ) (b : List Cell) (m : ℕ) → Contains (square_symmetries 4) g → length b ≡ 16 → can_move b m ≡ true
    → (n : ℕ) × (can_move (permute Empty g b) n ≡ true) × (play (permute Empty g b) n ≡ permute Empty g (play b m))
unfolding play
image_step g b m c e f =
    let h = move_slide b m f in
    let a = from_point m in
    let z = to_point m in
    let w = line_within a z h.line in
    let x = image_slide Empty 16 (square_symmetries 4) group g c b a z Empty Mine e w.0 w.1 in
    let i = x.0 in
    let j = x.1 in
    let n = step_number i j in
    let from : from_point n ≡ i = from_back i j x.3 in
    let to : to_point n ≡ j = to_back i j x.3 in
    let image = permute Empty g b in
    let there : IsSlide b (get_or g i 0) (get_or g j 0) = rw (x.4, x.5) h in
    let slide : IsSlide image i j = image_slides g b i j c x.2 x.3 there in (
      n,
      slide_move image n (rw (from, to) slide),
      ap₂ (λ (p q : ℕ). mover_gone image p q) from to
          ∙ ap (map turned) (sym x.6)
          ∙ sym (permute_turned g (set (set b a Empty) z Mine)),
    )

-- ---- ends of images
corner_below : (k : ℕ) → Contains corners k → k < 16
corner_below k c = ltb-true k 16 (all_at (λ (j : ℕ). ltb j 16) corners k refl c)

-- a piece that is trapped in the image is trapped on the board
trapped_from : (g : List ℕ) (b : List Cell) → Contains (square_symmetries 4) g → has_trapped (permute Empty g b) ≡ true → has_trapped b ≡ true
unfolding has_trapped
trapped_from g b c e =
    let image = permute Empty g b in
    let x = any_at (is_trapped image) corners e in
    let k = corner_kept g x.0 c x.1 in
    let near : fills Empty is_theirs b (permute 0 (around x.0) g) ≡ true = sym (image_fills 16 (square_symmetries 4) group g b c is_theirs (around x.0)
    k.within) ∙ and_right _ _ x.2 in
    any_from (is_trapped b) corners (get_or g x.0 0) k.corner
    (and_both _ _
    (ap is_mine (sym (image_cell 16 (square_symmetries 4) group g b c x.0 (corner_below x.0 x.1))) ∙ and_left _ _ x.2)
    (all_from (λ (j : ℕ). is_theirs (cell_at b j)) (around (get_or g x.0 0))
    (λ j d. all_at (λ (j : ℕ). is_theirs (cell_at b j)) (permute 0 (around x.0) g) j near (k.next j d))))

-- an image has a trapped piece if the board has one
pub image_trapped : (g : List ℕ) (b : List Cell) → Contains (square_symmetries 4) g → length b ≡ 16 → has_trapped (permute Empty g b) ≡ has_trapped b
image_trapped g b c e =
    let h = image_back Empty 16 (square_symmetries 4) group g c b e in
    same_tests _ _
    (trapped_from g b c)
    (λ f. trapped_from h.0 (permute Empty g b) h.1 (ap has_trapped h.2 ∙ f))

-- the last move has ended the game in an image as it has on the board
pub image_over : (g : List ℕ) (b : List Cell) → Contains (square_symmetries 4) g → length b ≡ 16 → end_by_last_move (permute Empty g b) ≡ end_by_last_move b
unfolding end_by_last_move
image_over g b c e = ap₂ (λ (x y : Bool). cond x (Some Lose) (cond y (Some Win) None)) (image_formation is_theirs g b c e) (image_trapped g b c e)

-- a move of a board has an image among the moves of the image
pub image_move : (g : List ℕ) (b : List Cell) (m : ℕ) → Contains (square_symmetries 4) g → length b ≡ 16 → IsMove dao b m
    → (n : ℕ) × IsMove dao (permute Empty g b) n × (play (permute Empty g b) n ≡ permute Empty g (play b m))
image_move g b m c e h =
    let x = image_step g b m c e h.can in
    let image = permute Empty g b in
    (x.0, record { below = line_below x.0 (move_slide image x.0 x.1).line; not_over = image_over g b c e ∙ h.not_over; can = x.1 }, x.2)
