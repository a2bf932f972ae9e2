-- The board before a slide that led to a legal board.
use Rattle.gm_dao.proofs.Lower.{◌≡◌, ◌+◌, ◌<◌, legal, slides, can_move, can_have_led_here, dao, legal_in, slide_step, move_slide}
use Rattle.gm_dao.specs.DaoRules.{has_formation, has_trapped, in_line, end_by_last_move, undo}
use Rattle.gm_dao.specs.inner.MaskSlides.{is_unended}
use Rattle.gm_dao.specs.laws.BoardFacts.{formation_turned, formation_left, legal_from}
use Rattle.gm_dao.specs.laws.MoveFacts.{IsSlide, slide_move}
use Rattle.gm_dao.specs.laws.BeforeFacts.{was_from}
use Rattle.std.specs.Prelude.{◌*◌}
use Rattle.gm_pieces.specs.Common.{false_from_ne_true, refl, ℕ, true, false, not, eqb, eqb-true, eq-eqb, List, map, length, set, None, Some, subst, sym, ap, ap₂, ◌∙◌, arith, inl, inr, get_or-set_same, length-set, length-map, cases_Bool, not-true, Cell, Empty, Mine, turned, is_mine, is_theirs, cell_at, number_of, mine_turned, theirs_turned, and_left, and_right, and_both, from_back, to_back, is_undecided, goes_on, before_at, before_some, before_none, WasStep, mover_gone, brought_back, step_left, gone_again}

-- the board before, by the cells of the move
taken_at : (d : List Cell) (a c : ℕ) → c < 16 → undo d (16 * a + c) ≡ brought_back d a c
unfolding undo
taken_at d a c l = ap₂ (λ (p q : ℕ). brought_back d p q) (from_back a c l) (to_back a c l)

-- ---- what a board before has where its slide leads to a legal board
record IsEarlier (e : List Cell) : Type 0 where
  own : number_of is_mine e ≡ 4
  other : number_of is_theirs e ≡ 4
  no_formation : has_formation is_theirs e ≡ false

earlier_has : (d e : List Cell) (a c : ℕ) → legal d ≡ true → WasStep d a c → e ≡ brought_back d a c → length e ≡ 16 → IsSlide e a c → IsEarlier e
earlier_has d e a c l w q n h =
    let x = set (set e a Empty) c Mine in
    let s = step_left e a c (slide_step e a c n h) in
    let back : map turned x ≡ d = ap (λ (b : List Cell). mover_gone b a c) q ∙ gone_again d a c w in
    let k = legal_in d l in
    let own : number_of is_mine x ≡ 4 = sym (theirs_turned x) ∙ ap (number_of is_theirs) back ∙ k.other in
    let other : number_of is_theirs x ≡ 4 = sym (mine_turned x) ∙ ap (number_of is_mine) back ∙ k.own in
    record {
      own = omega (arith, own, s.own);
      other = omega (arith, other, s.other);
      no_formation = sym (formation_left e x 0 s) ∙ sym (formation_turned x) ∙ ap (has_formation is_mine) back ∙ k.no_formation;
    }

-- ---- if the game goes on
-- where the opponent has no formation, the last move has not ended the game exactly if no piece is trapped
plays_is : (e : List Cell) → has_formation is_theirs e ≡ false → is_undecided (end_by_last_move e) ≡ not (has_trapped e)
unfolding end_by_last_move
plays_is e f = elim (cases_Bool (has_trapped e)) [ inl g ↦ rw (f, g) refl | inr g ↦ rw (f, g) refl ]

-- the slide, by the cells that the code has
slide_number : (e : List Cell) (a c : ℕ) → c < 16 → IsSlide e a c → can_move e (16 * a + c) ≡ true
slide_number e a c l h = slide_move e (16 * a + c) (rw (from_back a c l, to_back a c l) h)

number_slide : (e : List Cell) (a c : ℕ) → c < 16 → can_move e (16 * a + c) ≡ true → IsSlide e a c
number_slide e a c l h = rw (from_back a c l, to_back a c l) at (move_slide e (16 * a + c) h)

-- ---- the board before a step that led to a legal board
module _ (t : ℕ) (d e : List Cell) (a c : ℕ) (la : a < 16) (lc : c < 16) (l : legal d ≡ true) (w : WasStep d a c) (q : e ≡ brought_back d a c)
    (n : length e ≡ 16) where
  mover_at : cell_at e a ≡ Mine
  mover_at =
      let x = set (map turned d) c Empty in
      let long : length x ≡ 16 = length-set (map turned d) c Empty ∙ length-map d turned ∙ (legal_in d l).cells in
      ap (λ (b : List Cell). cell_at b a) q ∙ get_or-set_same x a Mine Empty (omega (arith, long, la))

  slide_of : slides e a c ≡ true → IsSlide e a c
  slide_of h =
      let r = and_right _ _ h in
      record { mine = mover_at; line = and_left _ _ h; clear = and_left _ _ r; stopped = and_right _ _ r }

  went_on : goes_on dao t e (16 * a + c) ≡ true → (slides e a c ≡ true) × (eqb t 0 ≡ true) × (is_unended e ≡ true)
  went_on g =
      let r = and_right _ _ g in
      let s = and_right _ _ r in
      let h = number_slide e a c lc (and_right _ _ s) in
      let free = not-true _ (sym (plays_is e (earlier_has d e a c l w q n h).no_formation) ∙ and_left _ _ s) in (
        and_both _ _ h.line (and_both _ _ h.clear h.stopped),
        eq-eqb t 0 (sym (eqb-true 0 t (and_left _ _ r))),
        and_both _ _ (ap not (legal_in e (and_left _ _ g)).no_formation) (ap not free),
      )

  taken : undo d (16 * a + c) ≡ e
  taken = taken_at d a c lc ∙ sym q

  -- if a test fails there is none
  pub no_before : (slides e a c ≡ true → eqb t 0 ≡ true → is_unended e ≡ true → ⊥) → before_at dao t d (16 * a + c) ≡ None
  no_before z = before_none dao t d (16 * a + c) (λ u. false_from_ne_true _ (λ g.
      let x = went_on (subst (λ (b : List Cell). goes_on dao t b (16 * a + c) ≡ true) taken g) in z x.0 x.1 x.2))

  module _ (f : slides e a c ≡ true) (z : t ≡ 0) (o : is_unended e ≡ true) where
    slide : IsSlide e a c
    slide = slide_of f

    has : IsEarlier e
    has = earlier_has d e a c l w q n slide

    -- if all are passed the board is legal
    pub earlier_legal : legal e ≡ true
    earlier_legal = legal_from e (record { cells = n; own = has.own; other = has.other; no_formation = not-true _ (and_left _ _ o) })

    -- and is the one before
    pub one_before : before_at dao t d (16 * a + c) ≡ Some e
    one_before =
        let m = 16 * a + c in
        let was : can_have_led_here d m ≡ true = was_from d m (record {
          line = ap₂ in_line (from_back a c lc) (to_back a c lc) ∙ slide.line;
          step = rw (from_back a c lc, to_back a c lc) w;
        }) in
        let on : goes_on dao t e m ≡ true = and_both _ _ earlier_legal (and_both _ _ (eq-eqb 0 t (sym z)) (and_both _ _
        (plays_is e has.no_formation ∙ and_right _ _ o) (slide_number e a c lc slide))) in
        before_some dao t d m was (subst (λ (b : List Cell). goes_on dao t b m ≡ true) (sym taken) on) ∙ ap (λ (b : List Cell). Some b) taken
