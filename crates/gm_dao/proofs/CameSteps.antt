-- The cells from which a piece can have slid to its cell, and the boards before a board, taken by the pieces that may have moved.
use Rattle.gm_dao.proofs.Lower.{◌++◌, ◌≡◌, ◌+◌, ◌/◌, ◌^◌, ◌<◌, ◌≤◌, ◌&&◌, ◌∷◌, contains_none, legal, slides, can_have_led_here, least_index_of, dao, came_by_masks, AreBeforesBelow, legal_in}
use Rattle.std.specs.Prelude.{◌≢◌, ◌*◌}
use Rattle.gm_board.specs.laws.Lists.{filter_map_from, filter_map_to, contains_head, contains_later}
use Rattle.std.specs.Option.{is_some}
use Rattle.gm_board.specs.laws.Filters.{filter_map_few}
use Rattle.std.specs.List.{AllByRecursion}
use Rattle.gm_game.specs.Children.{AreAscending, is_before}
use Rattle.gm_game.proofs.ChildrenLemmas.{ascending_once}
use Rattle.gm_game.proofs.Lists.{map_in, map_from}
use Rattle.gm_game.proofs.Putting.{put_all_ascending, put_all_from, put_all_later}
use Rattle.gm_pieces.specs.laws.MoveLaws.{before_skip}
use Rattle.gm_pieces.specs.laws.Skipped.{puts_skip}
use Rattle.gm_dao.specs.inner.MaskSlides.{way_back, befores_below}
use Rattle.gm_dao.specs.laws.SlideFacts.{way}
use Rattle.gm_dao.specs.laws.CountFacts.{blocks_few}
use Rattle.gm_dao.specs.laws.BeforeFacts.{was_in}
use Rattle.gm_pieces.specs.Common.{ℕ, zero, suc, Bool, true, false, not, cond, eqb, eq-eqb, ltb, ltb-true, List, [], length, map, set, None, Some, Option, refl, sym, ap, ap₂, ◌∙◌, subst, arith, inl, inr, bit_and, list_all, filter_map, range_with_len, cases_Bool, true≢false, Contains, put, put_all, put_more_none, put_more_some, Cell, Empty, Mine, Theirs, turned, has_cell, board_of, from_point, to_point, from_back, to_back, all_at, all_from, at_all, at_each, and_left, and_right, cond-true, get_or-set_same, get_or-set_other, length-set, length-map, before_at, befores, is_theirs, is_empty, is_taken, cell_at, WasStep, brought_back, turned_cell, filter, reverse, same_all, same_list, same_list_true, same_tests, cells_counted, empty_cell, contains_range, range_below, their_cells, IsAscending, Position, at, lt-ltb, map_once, false_from_ne_true}
use Rattle.gm_dao.specs.DaoRules.{in_line, path, beyond}
use Rattle.std.proofs.lemmas.List.Sorted.{IsPermutation-reverse, IsPermutation-sym, Contains-permutation}
use Rattle.gm_dao.proofs.MoveSteps.{all_more, was_at}
use Rattle.gm_dao.proofs.BeforeSteps.{no_before}
use Rattle.gm_dao.proofs.CountSteps.{ascending_above}

-- ---- a way and the way back
-- whether a cell is neither of two
abbrev apart : ℕ → ℕ → ℕ → Bool
apart a c k = not (eqb k a) && not (eqb k c)

-- the cells of a way but its end
abbrev between : ℕ → ℕ → List ℕ
between a c = filter (λ k. not (eqb k c)) (path a c)

-- the way back has the same cells in the other order and its own end; and what follows the way is neither end
abbrev turns : ℕ → ℕ → Bool
turns a c =
    cond (in_line a c)
    (in_line c a && (same_list (path a c) (between a c ++ c ∷ []) && (same_list (path c a) (reverse (between a c) ++ a ∷ [])
    && (list_all (λ k. apart a c k && ltb k 16) (between a c) && list_all (apart a c) (beyond a c)))))
    true

ways_turn : at_all 16 16 turns ≡ true
unfolding in_line path beyond
ways_turn = refl

record IsTurned (a c : ℕ) : Type 0 where
  line : in_line c a ≡ true
  forth : path a c ≡ between a c ++ c ∷ []
  back : path c a ≡ reverse (between a c) ++ a ∷ []
  inner : list_all (λ k. apart a c k && ltb k 16) (between a c) ≡ true
  after : list_all (apart a c) (beyond a c) ≡ true

way_turned : (a c : ℕ) → a < 16 → c < 16 → in_line a c ≡ true → IsTurned a c
way_turned a c l k e =
    let t = sym (cond-true _ _ _ e) ∙ at_each 16 16 turns ways_turn a c l k in
    let u = and_right _ _ t in
    let v = and_right _ _ u in
    let w = and_right _ _ v in
    record {
      line = and_left _ _ t;
      forth = same_list_true _ _ (and_left _ _ u);
      back = same_list_true _ _ (and_left _ _ v);
      inner = and_left _ _ w;
      after = and_right _ _ w;
    }

-- the order of the cells does not matter to a test of all
all_reverse : (p : ℕ → Bool) (xs : List ℕ) → list_all p (reverse xs) ≡ list_all p xs
all_reverse p xs =
    let order = IsPermutation-reverse xs in
    same_tests _ _
    (λ e. all_from p xs (λ x c. all_at p (reverse xs) x e (Contains-permutation xs (reverse xs) x order c)))
    (λ e. all_from p (reverse xs) (λ x c. all_at p xs x e (Contains-permutation (reverse xs) xs x (IsPermutation-sym xs (reverse xs) order) c)))

not_eqb : (x y : ℕ) → not (eqb x y) ≡ true → x ≢ y
not_eqb x y e q = true≢false (sym e ∙ ap not (eq-eqb x y q))

-- ---- cells before and after
empty_turned : (v : Cell) → is_empty (turned v) ≡ is_empty v
empty_turned Empty = refl
empty_turned Mine = refl
empty_turned Theirs = refl

taken_turned : (v : Cell) → is_taken (turned v) ≡ is_taken v
taken_turned Empty = refl
taken_turned Mine = refl
taken_turned Theirs = refl

module _ (d : List Cell) (a c free taken : ℕ) (la : a < 16) (lc : c < 16) (long : length d ≡ 16) (w : WasStep d a c)
    (f : (k : ℕ) → k < 16 → has_cell free k ≡ is_empty (cell_at d k)) (t : (k : ℕ) → k < 16 → has_cell taken k ≡ is_taken (cell_at d k)) where
  -- a cell that is neither end
  other : (k : ℕ) → apart a c k ≡ true → cell_at (brought_back d a c) k ≡ turned (cell_at d k)
  other k e =
      get_or-set_other (set (map turned d) c Empty) a k Mine Empty (not_eqb k a (and_left _ _ e))
      ∙ get_or-set_other (map turned d) c k Empty Empty (not_eqb k c (and_right _ _ e))
      ∙ turned_cell d k (cell_at d k) refl

  ends_apart : c ≢ a
  ends_apart q = let z : Theirs ≡ Empty = sym w.there ∙ ap (cell_at d) q ∙ w.left in let y : ⊥ = cc in y

  end_free : cell_at (brought_back d a c) c ≡ Empty
  end_free =
      get_or-set_other (set (map turned d) c Empty) a c Mine Empty ends_apart
      ∙ get_or-set_same (map turned d) c Empty Empty (let n = length-map d turned in omega (arith, n, long, lc))

  module _ (e : in_line a c ≡ true) where
    turned_way : IsTurned a c
    turned_way = way_turned a c la lc e

    clear : list_all (λ i. is_empty (cell_at (brought_back d a c) i)) (path a c) ≡ list_all (has_cell free) (path c a)
    clear =
        let empty : ℕ → Bool = λ i. is_empty (cell_at (brought_back d a c) i) in
        let cs = between a c in
        ap (list_all empty) turned_way.forth
        ∙ all_more empty cs c
        ∙ ap (λ (x : Bool). list_all empty cs && x) (ap is_empty end_free)
        ∙ ap (λ (x : Bool). x && true) (same_all empty (has_cell free) cs (λ k m.
        let z = all_at (λ (i : ℕ). apart a c i && ltb i 16) cs k turned_way.inner m in
        ap is_empty (other k (and_left _ _ z)) ∙ empty_turned (cell_at d k) ∙ sym (f k (ltb-true _ _ (and_right (apart a c k) _ z)))))
        ∙ sym (ap (list_all (has_cell free)) turned_way.back
        ∙ all_more (has_cell free) (reverse cs) a
        ∙ ap₂ (λ (x y : Bool). x && y) (all_reverse (has_cell free) cs) (f a la ∙ ap is_empty w.left))

    stopped : list_all (λ i. is_taken (cell_at (brought_back d a c) i)) (beyond a c) ≡ list_all (has_cell taken) (beyond a c)
    stopped = same_all (λ (i : ℕ). is_taken (cell_at (brought_back d a c) i)) (has_cell taken) (beyond a c) (λ k m.
        ap is_taken (other k (all_at (apart a c) (beyond a c) k turned_way.after m))
        ∙ taken_turned (cell_at d k)
        ∙ sym (t k (ltb-true _ _ (all_at (λ (i : ℕ). ltb i 16) (beyond a c) k (way a c e).beyond_within m))))

    -- the piece slid there exactly if it can have come
    pub same_slide : slides (brought_back d a c) a c ≡ came_by_masks free taken c a
    same_slide = ap₂ (λ (x y : Bool). x && y) (e ∙ sym turned_way.line) (ap₂ (λ (x y : Bool). x && y) clear stopped)

module _ (d : List Cell) (c free taken a : ℕ) (la : a < 16) (there : cell_at d c ≡ Theirs)
    (f : (k : ℕ) → k < 16 → has_cell free k ≡ is_empty (cell_at d k)) where
  -- a piece comes from an empty cell, so it has stepped
  pub was_step : came_by_masks free taken c a ≡ true → WasStep d a c
  was_step h = record {
    there = there;
    left = empty_cell _ (sym (f a la) ∙ all_at (has_cell free) (path c a) a (and_left _ _ (and_right _ _ h)) (way c a (and_left _ _ h)).ends);
  }

  -- and slid
  pub was_slid : legal d ≡ true → c < 16 → ((k : ℕ) → k < 16 → has_cell taken k ≡ is_taken (cell_at d k)) → came_by_masks free taken c a ≡ true → slides
      (brought_back d a c) a c ≡ true
  was_slid l lc t h =
      same_slide d a c free taken la lc (legal_in d l).cells (was_step h) f t (way_turned c a lc la (and_left _ _ h)).line ∙ h

-- ---- boards before
-- the number of the move that comes from a
pub back_at : (a c : ℕ) → a < 16 → way_back (16 * c + a) ≡ 16 * a + c
back_at a c l = ap₂ (λ (x y : ℕ). 16 * x + y) (to_back c a l) (from_back c a l)

module _ (t : ℕ) (d : List Cell) (c free taken : ℕ) (is_legal : legal d ≡ true) (lc : c < 16)
    (f : (k : ℕ) → k < 16 → has_cell free k ≡ is_empty (cell_at d k)) (s : (k : ℕ) → k < 16 → has_cell taken k ≡ is_taken (cell_at d k)) where
  -- no board before a move from a cell from which the piece cannot have come
  came_none : (a : ℕ) → a < 16 → came_by_masks free taken c a ≡ false → before_at dao t d (way_back (16 * c + a)) ≡ None
  came_none a l e = ap (before_at dao t d) (back_at a c l) ∙ elim (cases_Bool (can_have_led_here d (16 * a + c))) [
    | inl w ↦ (
        let m = was_at d (16 * a + c) a c w (sym (from_back a c lc)) (sym (to_back a c lc)) in
        let long = (legal_in d is_legal).cells in
        let n : length (brought_back d a c) ≡ 16 = length-set (set (map turned d) c Empty) a Mine ∙ length-set (map turned d) c Empty ∙ length-map d turned ∙
        long in
        no_before t d (brought_back d a c) a c l lc is_legal m.step refl n
        (λ h z o. absurd (true≢false (sym h ∙ same_slide d a c free taken l lc long m.step f s (and_left _ _ h) ∙ e))))
    | inr w ↦ before_skip dao t d (16 * a + c) w
  ]

  -- n cells from which it cannot have come
  pub came_skip : (g n k : ℕ) (is : List ℕ) → ((i : ℕ) → i < 16 → has_cell g i ≡ came_by_masks free taken c i) → n + k ≤ 16
      → ((i : ℕ) → i < k → has_cell g (n + i) ≡ false) → AreBeforesBelow t d (16 * c + n) is → AreBeforesBelow t d (16 * c + (n + k)) is
  came_skip g n k is h w none e =
      e
      ∙ sym (
      ap (λ (m : ℕ). put_all [] (map least_index_of (befores_below t d m))) (let z : 16 * c + (n + k) ≡ 16 * c + n + k = omega arith in z)
      ∙ puts_skip least_index_of (λ (m : ℕ). before_at dao t d (way_back m)) (16 * c + n) k (λ i l.
      ap (λ (m : ℕ). before_at dao t d (way_back m)) (let z : 16 * c + n + i ≡ 16 * c + (n + i) = omega arith in z)
      ∙ came_none (n + i) (omega (arith, w, l)) (sym (h (n + i) (omega (arith, w, l))) ∙ none i l)))

-- no move has ended on a cell without a piece of the opponent's
ended_past : (t : ℕ) (d : List Cell) (c : ℕ) (is : List ℕ) → c < 16 → is_theirs (cell_at d c) ≡ false → AreBeforesBelow t d (16 * c) is → AreBeforesBelow t d
    (16 * c + 16) is
ended_past t d c is lc e h =
    h
    ∙ sym (puts_skip least_index_of (λ (m : ℕ). before_at dao t d (way_back m)) (16 * c) 16 (λ a l.
    ap (before_at dao t d) (back_at a c l)
    ∙ before_skip dao t d (16 * a + c) (false_from_ne_true _ (λ w.
    true≢false (sym (ap is_theirs (was_at d (16 * a + c) a c w (sym (from_back a c lc)) (sym (to_back a c lc))).step.there) ∙ e)))))

-- cells without the opponent's pieces, s of them
pub others_skip : (t a b n s : ℕ) (is : List ℕ) → b < 2 ^ 16 → bit_and a b ≡ 0 → n + s ≤ 16 → ((i : ℕ) → i < s → has_cell b (n + i) ≡ false)
    → AreBeforesBelow t (board_of 16 a b) (16 * n) is → AreBeforesBelow t (board_of 16 a b) (16 * (n + s)) is
others_skip t a b n zero is w q l none m =
    subst (λ (k : ℕ). AreBeforesBelow t (board_of 16 a b) k is) (let z : 16 * n ≡ 16 * (n + 0) = omega arith in z) m
others_skip t a b n (suc s) is w q l none m =
    subst (λ (k : ℕ). AreBeforesBelow t (board_of 16 a b) k is) (let z : 16 * (n + s) + 16 ≡ 16 * (n + suc s) = omega arith in z)
    (ended_past t (board_of 16 a b) (n + s) is (omega (arith, l)) (sym (their_cells 16 a b w q (n + s)) ∙ none s (omega arith))
    (others_skip t a b n s is w q (omega (arith, l)) (λ i k. none i (omega (arith, k))) m))

-- the number has no board before it
pub before_less : (t : ℕ) (d : List Cell) (c a : ℕ) (is : List ℕ) → a < 16 → before_at dao t d (16 * a + c) ≡ None → AreBeforesBelow t d (16 * c + a) is →
    AreBeforesBelow t d (16 * c + (a + 1)) is
before_less t d c a is l e h =
    h
    ∙ sym (put_more_none least_index_of (λ (m : ℕ). before_at dao t d (way_back m)) (16 * c + a) (ap (before_at dao t d) (back_at a c l) ∙ e))
    ∙ ap (λ (n : ℕ). put_all [] (map least_index_of (befores_below t d n))) (let z : 16 * c + a + 1 ≡ 16 * c + (a + 1) = omega arith in z)

-- or one
pub before_more : (t : ℕ) (d b : List Cell) (c a i : ℕ) (is new : List ℕ) → a < 16 → before_at dao t d (16 * a + c) ≡ Some b → i ≡ least_index_of b → new ≡ put
    i is → AreBeforesBelow t d (16 * c + a) is → AreBeforesBelow t d (16 * c + (a + 1)) new
before_more t d b c a i is new l e f p h =
    p
    ∙ ap₂ put f h
    ∙ sym (put_more_some least_index_of (λ (m : ℕ). before_at dao t d (way_back m)) (16 * c + a) b (ap (before_at dao t d) (back_at a c l) ∙ e))
    ∙ ap (λ (n : ℕ). put_all [] (map least_index_of (befores_below t d n))) (let z : 16 * c + a + 1 ≡ 16 * c + (a + 1) = omega arith in z)

-- ---- how many there are
-- at most sixteen for each of the opponent's pieces
pub befores_room : (t : ℕ) (d : List Cell) → legal d ≡ true → length (befores_below t d 256) ≤ 128
unfolding from_point to_point
befores_room t d l =
    let h = legal_in d l in
    let at : ℕ → Option (List Cell) = λ m. before_at dao t d (way_back m) in
    let few = filter_map_few at (λ m. is_some (at m)) (λ m b e. ap (λ (o : Option (List Cell)). is_some o) e) (range_with_len 0 256) in
    let blocks = blocks_few (λ m. is_some (at m)) (λ k. is_theirs (cell_at d k)) 16 (λ m k e.
    elim (cases_Bool (can_have_led_here d (way_back m))) [
      | inl w ↦ (
          let z : to_point (way_back m) ≡ m / 16 = omega (arith, k) in
          ap (λ (i : ℕ). is_theirs (cell_at d i)) (sym z) ∙ ap is_theirs (was_in d (way_back m) w).step.there)
      | inr w ↦ absurd (true≢false (sym e ∙ ap (λ (o : Option (List Cell)). is_some o) (before_skip dao t d (way_back m) w)))
    ]) in
    let all = cells_counted is_theirs d 16 h.cells in
    omega (arith, few, blocks, all, h.other)

-- ---- in another order
rest_ascending : (x : ℕ) (xs : List ℕ) → IsAscending (x ∷ xs) → IsAscending xs
rest_ascending x [] up = tt
rest_ascending x (y ∷ ys) up = up.1

-- ascending numbers are the indexes of ascending positions
positions_up : (xs : List ℕ) → IsAscending xs → AreAscending (map (at 0) xs)
positions_up [] u = tt
positions_up (x ∷ xs) u = (later x xs (ascending_above x xs u), positions_up xs (rest_ascending x xs u))
  where
    later : (x : ℕ) (xs : List ℕ) → ((y : ℕ) → Contains xs y → x < y) → AllByRecursion (λ q. is_before (at 0 x) q ≡ true) (map (at 0) xs)
    later x [] h = tt
    later x (y ∷ ys) h = (lt-ltb x y (h y (contains_head y ys)), later x ys (λ z c. h z (contains_later y ys z c)))

-- ascending lists of the same numbers are one
same_ascending : (xs ys : List ℕ) → IsAscending xs → IsAscending ys → ((z : ℕ) → Contains xs z → Contains ys z) → ((z : ℕ) → Contains ys z → Contains xs z) → xs ≡ ys
same_ascending xs ys u v f g =
    map_once (at 0) (λ (p : Position). p.index) (λ x. refl) xs ys
    (ascending_once (map (at 0) xs) (map (at 0) ys) (positions_up xs u) (positions_up ys v) (λ p. (moved xs ys f p, moved ys xs g p)))
  where
    moved : (us vs : List ℕ) → ((z : ℕ) → Contains us z → Contains vs z) → (p : Position) → Contains (map (at 0) us) p → Contains (map (at 0) vs) p
    moved us vs k p c = let x = map_in (at 0) us p c in subst (λ (q : Position). Contains (map (at 0) vs) q) x.2 (map_from (at 0) vs x.0 (k x.0 x.1))

-- putting lists with the same boards in order gives the same
same_put : {B : Type 0} (f : B → ℕ) (xs ys : List B) → ((b : B) → Contains xs b → Contains ys b) → ((b : B) → Contains ys b → Contains xs b) → put_all []
    (map f xs) ≡ put_all [] (map f ys)
same_put {B} f xs ys g h =
    same_ascending (put_all [] (map f xs)) (put_all [] (map f ys)) (put_all_ascending [] (map f xs) tt) (put_all_ascending [] (map f ys) tt) (moved xs ys g)
    (moved ys xs h)
  where
    moved : (us vs : List B) → ((b : B) → Contains us b → Contains vs b) → (z : ℕ) → Contains (put_all [] (map f us)) z → Contains (put_all [] (map f vs)) z
    moved us vs k z c = elim (put_all_from [] (map f us) z c) [
      | inl n ↦ absurd (contains_none z n)
      | inr d ↦ (
          let x = map_in f us z d in
          put_all_later [] (map f vs) z (subst (λ (i : ℕ). Contains (map f vs) i) x.2 (map_from f vs x.0 (k x.0 x.1))))
    ]

-- the boards before the moves that end on the sixteen cells are all
pub befores_all : (t : ℕ) (d : List Cell) (is : List ℕ) → AreBeforesBelow t d 256 is → is ≡ put_all [] (map least_index_of (befores dao t d))
unfolding befores from_point to_point
befores_all t d is e =
    e ∙ same_put least_index_of (befores_below t d 256) (filter_map (before_at dao t d) (range_with_len 0 256))
    (λ b c.
    let x = filter_map_from (λ (m : ℕ). before_at dao t d (way_back m)) (range_with_len 0 256) b c in
    let l = range_below 256 x.0 x.1 in
    filter_map_to (before_at dao t d) (range_with_len 0 256) (way_back x.0) b (contains_range 256 (way_back x.0) (omega (arith, l))) x.2)
    (λ b c.
    let x = filter_map_from (before_at dao t d) (range_with_len 0 256) b c in
    let l = range_below 256 x.0 x.1 in
    filter_map_to (λ (m : ℕ). before_at dao t d (way_back m)) (range_with_len 0 256) (way_back x.0) b (contains_range 256 (way_back x.0) (omega (arith, l)))
    (ap (before_at dao t d) (let z : way_back (way_back x.0) ≡ x.0 = omega (arith, l) in z) ∙ x.2))
