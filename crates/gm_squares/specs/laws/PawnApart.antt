-- Different moves of a board with a pawn lead to different least images: no square is its own image, since only files are reversed.
use Rattle.std.specs.Prelude.{◌≡◌, ◌≢◌, ◌<◌, ◌≤◌, ◌⊎◌, if◌then◌else◌}
use Rattle.gm_pieces.specs.Common.{ℕ, Bool, true, not, eqb, le-leb, eq-eqb, List, length, map, min, refl, sym, ap, ap₂, ◌∙◌, subst, arith, inl, inr, cases_Bool, true≢false, None, Position, Contains, range_with_len, list_all, at_below, set_of, next_images, board_game, least_image, least_index, steps}
use Rattle.gm_pieces.specs.MoveGames.{IsMove}
use Rattle.gm_pieces.specs.laws.CountFacts.{HasApartResults, results_counted}
use Rattle.gm_pieces.specs.laws.MarkedFacts.{over_none}
use Rattle.gm_squares.specs.declared.men.Men.{Men}
use Rattle.gm_squares.specs.declared.pawns.WhiteMan.{WhiteMan}
use Rattle.gm_squares.specs.declared.pawns.WhiteMan.TheVariants.{Pawn}
use Rattle.gm_squares.specs.declared.pawns.PawnBoard.{PawnBoard}
use Rattle.gm_squares.specs.Chess.{king_attacks, man, from_square, to_square, moved as men_moved, image_square, image as men_image, index as men_index}
use Rattle.gm_squares.specs.Kpk.{kpk, legal, can_move, tier_with, tier, moved, promoted, left_of, image, index, board}
use Rattle.gm_squares.specs.laws.AttackFacts.{image_identity}
use Rattle.gm_squares.specs.laws.MenApart.{resting_king, by_king, by_piece, by_foe, king_leaves, same_number}
use Rattle.gm_squares.specs.laws.MenFacts.{to_below}
use Rattle.gm_squares.specs.laws.PawnAfter.{promoted_tier}
use Rattle.gm_squares.specs.laws.PawnFacts.{king_below, foe_below, move_with, going_man, IsGoing, IsPromotion}
use Rattle.gm_squares.specs.laws.PawnImages.{symmetries, two, two_in, symmetric, least_of_two}
use Rattle.gm_squares.specs.laws.PawnMoves.{lawful, moved_plain, moved_promoted, left_tier}
use Rattle.gm_squares.specs.laws.PawnNumbering.{numbered}
use Rattle.gm_squares.specs.laws.PawnReach.{king_steps}
use Rattle.gm_squares.specs.laws.PawnTried.{man_most, bound_most}

-- ---- reversing files moves each square
moves_table : list_all (λ k. not (eqb (image_square 2 k) k)) (range_with_len 0 64) ≡ true
unfolding image_square
moves_table = refl

never_same : (k : ℕ) → k < 64 → image_square 2 k ≢ image_square 0 k
never_same k l e =
    true≢false (sym (at_below 64 (λ k. not (eqb (image_square 2 k) k)) moves_table k l) ∙ ap not (eq-eqb _ _ (e ∙ image_identity k (omega (arith, l)))))

same_symmetry : (x y k : ℕ) → Contains symmetries x → Contains symmetries y → k < 64 → image_square x k ≡ image_square y k → x ≡ y
same_symmetry x y k cx cy l e = elim (two x cx) [
  | inl a ↦ elim (two y cy) [
    | inl c ↦ a ∙ sym c
    | inr c ↦ absurd (never_same k l (ap (λ (z : ℕ). image_square z k) (sym c) ∙ sym e ∙ ap (λ (z : ℕ). image_square z k) a))
  ]
  | inr a ↦ elim (two y cy) [
    | inl c ↦ absurd (never_same k l (ap (λ (z : ℕ). image_square z k) (sym a) ∙ e ∙ ap (λ (z : ℕ). image_square z k) c))
    | inr c ↦ a ∙ sym c
  ]
]

-- ---- a move is determined by the board to which it leads
pawn_tier : (k : WhiteMan) → k ≡ Pawn → tier_with k ≡ 5
unfolding tier_with
pawn_tier k e = ap tier_with e

module _ (b : PawnBoard) (l : legal b ≡ true) where
  king_goes : (m : ℕ) → can_move b m ≡ true → man m ≡ 0 → from_square m ≡ b.men.king → to_square m ≢ b.men.king
  king_goes m can is from =
      let steps = king_steps b.kind b.men m can (λ z. omega (arith, is, z)) (omega (arith, is)) in
      king_leaves b.men.king (to_square m) (king_below b l) (to_below m) (ap (λ (s : ℕ). king_attacks s (to_square m)) (sym from) ∙ steps)

  same_going : (m n : ℕ) → can_move b m ≡ true → can_move b n ≡ true → IsGoing b.men m → IsGoing b.men n → men_moved b.men m ≡ men_moved b.men n → m ≡ n
  same_going m n cm cn u v e = elim u [
    | inl k ↦ elim v [
      | inl j ↦ same_number m n 0 b.men.king k.is k.from j.is j.from (ap (λ (d : Men). d.king) (sym (by_king b.men m k.is) ∙ e ∙ by_king b.men n j.is))
      | inr w ↦ elim w [
        | inl j ↦ absurd (king_goes m cm k.is k.from (ap (λ (d : Men). d.king) (sym (by_king b.men m k.is) ∙ e ∙ by_piece b.men n j.is)))
        | inr j ↦ absurd (true≢false (sym k.side ∙ j.side))
      ]
    ]
    | inr t ↦ elim t [
      | inl k ↦ elim v [
        | inl j ↦ absurd (king_goes n cn j.is j.from (ap (λ (d : Men). d.king) (sym (by_king b.men n j.is) ∙ sym e ∙ by_piece b.men m k.is)))
        | inr w ↦ elim w [
          | inl j ↦ same_number m n 1 b.men.piece k.is k.from j.is j.from (ap (λ (d : Men). d.piece) (sym (by_piece b.men m k.is) ∙ e ∙ by_piece b.men n j.is))
          | inr j ↦ absurd (true≢false (sym k.side ∙ j.side))
        ]
      ]
      | inr k ↦ elim v [
        | inl j ↦ absurd (true≢false (sym j.side ∙ k.side))
        | inr w ↦ elim w [
          | inl j ↦ absurd (true≢false (sym j.side ∙ k.side))
          | inr j ↦ same_number m n 2 b.men.foe k.is k.from j.is j.from (ap (λ (d : Men). d.foe) (sym (by_foe b.men m k.is) ∙ e ∙ by_foe b.men n j.is))
        ]
      ]
    ]
  ]

  -- what a pawn becomes is of another tier than the man that was there, or that none is left
  mixed : (d : Men) (n : ℕ) → b.kind ≡ Pawn → 3 ≤ man n → man n ≤ 6 → tier_with (left_of b.kind d) ≢ tier_with (promoted (man n))
  mixed d n pawn low high e =
      let p = promoted_tier (man n) low high in
      let five = pawn_tier b.kind pawn in
      elim (left_tier b.kind d) [ inl z ↦ omega (arith, e, p, five, z, low, high) | inr z ↦ omega (arith, e, p, z, low, high) ]

  both : (m n : ℕ) → IsPromotion b.men m → IsPromotion b.men n → man m ≤ 6 → man n ≤ 6 → tier_with (promoted (man m)) ≡ tier_with (promoted (man n)) → m ≡ n
  both m n p r hm hn e =
      let pm = promoted_tier (man m) p.becomes hm in
      let pn = promoted_tier (man n) r.becomes hn in
      let lm = p.becomes in
      let ln = r.becomes in
      let same : man m ≡ man n = omega (arith, e, pm, pn, lm, ln) in
      same_number m n (man m) b.men.piece refl p.from (sym same) r.from (p.to ∙ sym r.to)

  most : (m : ℕ) → IsMove kpk b m → man m ≤ 6
  most m u = man_most m (let z = u.below in let y = bound_most (tier b) in omega (arith, z, y))

  same_moved : (m n : ℕ) → IsMove kpk b m → IsMove kpk b n → moved b m ≡ moved b n → m ≡ n
  same_moved m n u v e = elim (move_with b.kind b.men m u.can) [
    | inl p ↦ elim (move_with b.kind b.men n v.can) [
      | inl r ↦ same_going m n u.can v.can p r
          (ap (λ (d : PawnBoard). d.men) (sym (moved_plain b m (going_man b.men m p)) ∙ e ∙ moved_plain b n (going_man b.men n r)))
      | inr r ↦ absurd (mixed (men_moved b.men m) n r.0 r.1.becomes (most n v)
          (ap tier (sym (moved_plain b m (going_man b.men m p)) ∙ e ∙ moved_promoted b n (le-leb _ _ r.1.becomes))))
    ]
    | inr p ↦ elim (move_with b.kind b.men n v.can) [
      | inl r ↦ absurd (mixed (men_moved b.men n) m p.0 p.1.becomes (most m u)
          (ap tier (sym (moved_plain b n (going_man b.men n r)) ∙ sym e ∙ moved_promoted b m (le-leb _ _ p.1.becomes))))
      | inr r ↦ both m n p.1 r.1 (most m u) (most n v)
          (ap tier (sym (moved_promoted b m (le-leb _ _ p.1.becomes)) ∙ e ∙ moved_promoted b n (le-leb _ _ r.1.becomes)))
    ]
  ]

  -- ---- the king that rests
  resting_below : resting_king b.men < 64
  resting_below = elim (cases_Bool b.men.white_moves) [
    | inl w ↦ subst (λ (t : Bool). (if t then b.men.foe else b.men.king) < 64) (sym w) (foe_below b l)
    | inr w ↦ subst (λ (t : Bool). (if t then b.men.foe else b.men.king) < 64) (sym w) (king_below b l)
  ]

  abbrev rested : PawnBoard → ℕ
  rested d = if b.men.white_moves then d.men.foe else d.men.king

  rests : (m : ℕ) → IsMove kpk b m → rested (moved b m) ≡ resting_king b.men
  rests m u = elim (move_with b.kind b.men m u.can) [
    | inl p ↦ ap rested (moved_plain b m (going_man b.men m p)) ∙ elim p [
      | inl k ↦ rw (by_king b.men m k.is, k.side) refl
      | inr t ↦ elim t [ inl k ↦ rw (by_piece b.men m k.is, k.side) refl | inr k ↦ rw (by_foe b.men m k.is, k.side) refl ]
    ]
    | inr p ↦ ap rested (moved_promoted b m (le-leb _ _ p.1.becomes)) ∙ (let w = p.1.side in rw w refl)
  ]

  rested_image : (x : ℕ) (d : PawnBoard) → rested (image x d) ≡ image_square x (rested d)
  rested_image x d = elim (cases_Bool b.men.white_moves) [ inl w ↦ rw w refl | inr w ↦ rw w refl ]

  -- ---- a least index is that of an image
  min_cases : (i j : ℕ) → (i ≡ min i j) ⊎ (j ≡ min i j)
  min_cases i j = grind arith

  least_by : (d : PawnBoard) → legal d ≡ true → (x : ℕ) × Contains symmetries x × (index (image x d) ≡ least_index (board_game kpk) d)
  least_by d ld =
      let (z, c, same) = symmetric.group.identity in
      elim (min_cases (men_index d.men) (men_index (men_image 2 d.men))) [
        | inl e ↦ (z, c, ap index (same d ld) ∙ e ∙ least_of_two d ld)
        | inr e ↦ (2, two_in, e ∙ least_of_two d ld)
      ]

  same_image : (d f : PawnBoard) (x y : ℕ) → legal d ≡ true → legal f ≡ true → Contains symmetries x → Contains symmetries y → tier d ≡ tier f
      → index (image x d) ≡ index (image y f) → image x d ≡ image y f
  same_image d f x y ld lf cx cy t e =
      sym (numbered.board_back (image x d) (symmetric.keeps_legal x d cx ld)) ∙ ap₂ board t e
      ∙ numbered.board_back (image y f) (symmetric.keeps_legal y f cy lf)

  same_before : (d f : PawnBoard) (x : ℕ) → legal d ≡ true → legal f ≡ true → Contains symmetries x → image x d ≡ image x f → d ≡ f
  same_before d f x ld lf cx e =
      let (z, c, back) = symmetric.group.inverse x cx in
      sym (back d ld) ∙ ap (image z) e ∙ back f lf

  -- ---- moves and children
  apart : HasApartResults kpk lawful b l
  apart m n u v e =
      let d = moved b m in
      let f = moved b n in
      let ld = lawful.moved_legal b m l u in
      let lf = lawful.moved_legal b n l v in
      let (x, cx, ex) = least_by d ld in
      let (y, cy, ey) = least_by f lf in
      let images : image x d ≡ image y f =
      same_image d f x y ld lf cx cy (ap (λ (p : Position). p.tier) e) (ex ∙ ap (λ (p : Position). p.index) e ∙ sym ey) in
      let squares : image_square x (resting_king b.men) ≡ image_square y (resting_king b.men) =
      ap (image_square x) (sym (rests m u)) ∙ sym (rested_image x d) ∙ ap rested images ∙ rested_image y f ∙ ap (image_square y) (rests n v) in
      let one = same_symmetry x y (resting_king b.men) cx cy resting_below squares in
      same_moved m n u v (same_before d f x ld lf cx (images ∙ ap (λ (z : ℕ). image z f) (sym one)))

  pub children_counted : kpk.end_by_last_move b ≡ None → length (steps kpk b) ≡ length (set_of (next_images (board_game kpk) b))
  children_counted none = results_counted kpk lawful b l apart none

-- a board at which the game is over has no child
pub over_counted : (b : PawnBoard) → kpk.end_by_last_move b ≢ None → 0 ≡ length (set_of (next_images (board_game kpk) b))
over_counted b n =
    sym (ap (λ (ms : List ℕ). length (set_of (map (λ m. least_image (board_game kpk) (moved b m)) ms))) (over_none (kpk.end_by_last_move b) (steps kpk b) n))
