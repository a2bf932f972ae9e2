-- Different moves lead to different least images, if the king of the side that isn't to move is on no long diagonal.
use Rattle.std.specs.Prelude.{◌≡◌, ◌≢◌, ◌<◌, ◌||◌, if◌then◌else◌}
use Rattle.gm_pieces.specs.Common.{ℕ, Bool, true, false, not, eqb, eqb-true, eq-eqb, List, length, map, refl, sym, ap, ap₂, ◌∙◌, subst, arith, inl, inr, cases_Bool, true≢false, and_left, or_cases, None, Position, contains_range, range_below, range_with_len, list_all, has_cell, at_all, at_each, at_below, set_of, next_images, board_game, least_image, least_index, steps}
use Rattle.gm_board.specs.laws.Lists.{contains_unmap}
use Rattle.gm_game.proofs.Least.{least_is}
use Rattle.gm_pieces.specs.MoveGames.{IsMove}
use Rattle.gm_pieces.specs.laws.CountFacts.{HasApartResults, results_counted}
use Rattle.gm_pieces.specs.laws.MarkedFacts.{over_none}
use Rattle.gm_squares.specs.declared.homes.TheConstants.{LONG_DIAGONALS}
use Rattle.gm_squares.specs.declared.men.Men.{Men}
use Rattle.gm_squares.specs.Chess.{king_attacks, legal, man, from_square, to_square, king_gone, piece_gone, foe_gone, moved, image_square, image, index, board, tier, ending}
use Rattle.gm_squares.specs.laws.AttackFacts.{near_test}
use Rattle.gm_squares.specs.laws.HomeFacts.{same}
use Rattle.gm_squares.specs.laws.MenFacts.{king_below, foe_below, move_in, to_below}
use Rattle.gm_squares.specs.laws.MenImages.{symmetric}
use Rattle.gm_squares.specs.laws.MenMoves.{lawful}
use Rattle.gm_squares.specs.laws.MenNumbering.{numbered}
use Rattle.gm_squares.specs.laws.TriedMoves.{at_from}

-- the square of the king of the side that isn't to move
abbrev pub resting_king : Men → ℕ
resting_king b = if b.white_moves then b.foe else b.king

-- ---- a square on no long diagonal has eight images
abbrev is_apart : ℕ → ℕ → Bool
is_apart x k = list_all (λ y. has_cell LONG_DIAGONALS k || (not (eqb (image_square x k) (image_square y k)) || eqb x y)) (range_with_len 0 8)

apart_table : at_all 8 64 is_apart ≡ true
unfolding image_square
apart_table = refl

same_symmetry : (x y k : ℕ) → x < 8 → y < 8 → k < 64 → has_cell LONG_DIAGONALS k ≡ false → image_square x k ≡ image_square y k → x ≡ y
same_symmetry x y k lx ly lk off e =
    let all = at_each 8 64 is_apart apart_table x k lx lk in
    elim (or_cases _ _ (at_below 8 (λ y. has_cell LONG_DIAGONALS k || (not (eqb (image_square x k) (image_square y k)) || eqb x y)) all y ly)) [
      | inl on ↦ absurd (true≢false (sym on ∙ off))
      | inr u ↦ elim (or_cases _ _ u) [
        | inl n ↦ absurd (true≢false (sym n ∙ ap not (eq-eqb _ _ e)))
        | inr f ↦ eqb-true x y f
      ]
    ]

-- ---- a move is determined by the board to which it leads
pub same_number : (m n k s : ℕ) → man m ≡ k → from_square m ≡ s → man n ≡ k → from_square n ≡ s → to_square m ≡ to_square n → m ≡ n
same_number m n k s e f g h t = let a = at_from m k s e f in let c = at_from n k s g h in omega (arith, a, c, t)

pub by_king : (b : Men) (m : ℕ) → man m ≡ 0 → moved b m ≡ king_gone b (to_square m)
unfolding moved
by_king b m e = rw e refl

pub by_piece : (b : Men) (m : ℕ) → man m ≡ 1 → moved b m ≡ piece_gone b (to_square m)
unfolding moved
by_piece b m e = rw e refl

pub by_foe : (b : Men) (m : ℕ) → man m ≡ 2 → moved b m ≡ foe_gone b (to_square m)
unfolding moved
by_foe b m e = rw e refl

-- a king doesn't stay on its square
pub king_leaves : (a c : ℕ) → a < 64 → c < 64 → king_attacks a c ≡ true → c ≢ a
king_leaves a c l h e f = true≢false (sym (and_left (not (eqb a c)) _ (near_test a c l h ∙ e)) ∙ ap not (eq-eqb a c (sym f)))

module _ (q : Bool) (b : Men) (l : legal q b ≡ true) where
  one_goes : (m n : ℕ) → king_attacks b.king (to_square m) ≡ true → king_gone b (to_square m) ≢ piece_gone b (to_square n)
  one_goes m n can e = king_leaves b.king (to_square m) (king_below q b l) (to_below m) can (ap (λ (d : Men). d.king) e)

  same_moved : (m n : ℕ) → IsMove (ending q) b m → IsMove (ending q) b n → moved b m ≡ moved b n → m ≡ n
  same_moved m n u v e = elim (move_in q b m u.can) [
    | inl k ↦ elim (move_in q b n v.can) [
      | inl j ↦ same_number m n 0 b.king k.is k.from j.is j.from (ap (λ (d : Men). d.king) (sym (by_king b m k.is) ∙ e ∙ by_king b n j.is))
      | inr w ↦ elim w [
        | inl j ↦ absurd (one_goes m n (and_left _ _ k.can) (sym (by_king b m k.is) ∙ e ∙ by_piece b n j.is))
        | inr j ↦ absurd (true≢false (sym k.side ∙ j.side))
      ]
    ]
    | inr t ↦ elim t [
      | inl k ↦ elim (move_in q b n v.can) [
        | inl j ↦ absurd (one_goes n m (and_left _ _ j.can) (sym (by_king b n j.is) ∙ sym e ∙ by_piece b m k.is))
        | inr w ↦ elim w [
          | inl j ↦ same_number m n 1 b.piece k.is k.from j.is j.from (ap (λ (d : Men). d.piece) (sym (by_piece b m k.is) ∙ e ∙ by_piece b n j.is))
          | inr j ↦ absurd (true≢false (sym k.side ∙ j.side))
        ]
      ]
      | inr k ↦ elim (move_in q b n v.can) [
        | inl j ↦ absurd (true≢false (sym j.side ∙ k.side))
        | inr w ↦ elim w [
          | inl j ↦ absurd (true≢false (sym j.side ∙ k.side))
          | inr j ↦ same_number m n 2 b.foe k.is k.from j.is j.from (ap (λ (d : Men). d.foe) (sym (by_foe b m k.is) ∙ e ∙ by_foe b n j.is))
        ]
      ]
    ]
  ]

  -- ---- the king that rests
  resting_below : resting_king b < 64
  resting_below = elim (cases_Bool b.white_moves) [
    | inl w ↦ subst (λ (t : Bool). (if t then b.foe else b.king) < 64) (sym w) (foe_below q b l)
    | inr w ↦ subst (λ (t : Bool). (if t then b.foe else b.king) < 64) (sym w) (king_below q b l)
  ]

  -- the square of that king after a move
  abbrev rested : Men → ℕ
  rested d = if b.white_moves then d.foe else d.king

  rests : (m : ℕ) → IsMove (ending q) b m → rested (moved b m) ≡ resting_king b
  rests m u = elim (move_in q b m u.can) [
    | inl k ↦ rw (by_king b m k.is, k.side) refl
    | inr t ↦ elim t [ inl k ↦ rw (by_piece b m k.is, k.side) refl | inr k ↦ rw (by_foe b m k.is, k.side) refl ]
  ]

  rested_image : (x : ℕ) (d : Men) → rested (image x d) ≡ image_square x (rested d)
  rested_image x d = elim (cases_Bool b.white_moves) [ inl w ↦ rw w refl | inr w ↦ rw w refl ]

  -- ---- a least index is that of an image
  least_by : (d : Men) → legal q d ≡ true → (x : ℕ) × (x < 8) × (index (image x d) ≡ least_index (board_game (ending q)) d)
  least_by d ld =
      let shown = map (λ y. image y d) (range_with_len 0 8) in
      elim (least_is (index d) (map index shown)) [
        | inl e ↦ (0, omega arith, ap index (same q d ld) ∙ sym e)
        | inr c ↦ (
            let (z, i, f) = contains_unmap index shown (least_index (board_game (ending q)) d) c in
            let (y, j, g) = contains_unmap (λ y. image y d) (range_with_len 0 8) z i in
            (y, range_below 8 y j, ap index g ∙ f))
      ]

  -- boards that have images with one index
  same_image : (d f : Men) (x y : ℕ) → legal q d ≡ true → legal q f ≡ true → x < 8 → y < 8 → tier d ≡ tier f → index (image x d) ≡ index (image y f)
      → image x d ≡ image y f
  same_image d f x y ld lf lx ly t e =
      let s = symmetric q in
      let cx = contains_range 8 x lx in
      let cy = contains_range 8 y ly in
      let tiers : tier (image x d) ≡ tier (image y f) = s.keeps_tier x d cx ld ∙ t ∙ sym (s.keeps_tier y f cy lf) in
      sym ((numbered q).board_back (image x d) (s.keeps_legal x d cx ld)) ∙ ap₂ board tiers e
      ∙ (numbered q).board_back (image y f) (s.keeps_legal y f cy lf)

  -- a symmetry can be taken back
  same_before : (d f : Men) (x : ℕ) → legal q d ≡ true → legal q f ≡ true → x < 8 → image x d ≡ image x f → d ≡ f
  same_before d f x ld lf lx e =
      let (z, c, back) = (symmetric q).group.inverse x (contains_range 8 x lx) in
      sym (back d ld) ∙ ap (image z) e ∙ back f lf

  -- ---- moves and children
  apart : has_cell LONG_DIAGONALS (resting_king b) ≡ false → HasApartResults (ending q) (lawful q) b l
  apart off m n u v e =
      let d = moved b m in
      let f = moved b n in
      let ld = (lawful q).moved_legal b m l u in
      let lf = (lawful q).moved_legal b n l v in
      let (x, lx, ex) = least_by d ld in
      let (y, ly, ey) = least_by f lf in
      let images : image x d ≡ image y f =
      same_image d f x y ld lf lx ly (ap (λ (p : Position). p.tier) e) (ex ∙ ap (λ (p : Position). p.index) e ∙ sym ey) in
      let squares : image_square x (resting_king b) ≡ image_square y (resting_king b) =
      ap (image_square x) (sym (rests m u)) ∙ sym (rested_image x d) ∙ ap rested images ∙ rested_image y f ∙ ap (image_square y) (rests n v) in
      let one = same_symmetry x y (resting_king b) lx ly resting_below off squares in
      same_moved m n u v (same_before d f x ld lf lx (images ∙ ap (λ (z : ℕ). image z f) (sym one)))

  pub children_counted : has_cell LONG_DIAGONALS (resting_king b) ≡ false → (ending q).end_by_last_move b ≡ None
      → length (steps (ending q) b) ≡ length (set_of (next_images (board_game (ending q)) b))
  children_counted off none = results_counted (ending q) (lawful q) b l (apart off) none

-- a board at which the game is over has no child
pub over_counted : (q : Bool) (b : Men) → (ending q).end_by_last_move b ≢ None → 0 ≡ length (set_of (next_images (board_game (ending q)) b))
over_counted q b n =
    sym (ap (λ (ms : List ℕ). length (set_of (map (λ m. least_image (board_game (ending q)) (moved b m)) ms))) (over_none ((ending q).end_by_last_move b) (steps (ending q) b) n))
