-- Legal boards: what holds of each because a test passes at all of them, and boards that are the same.
use Rattle.std.specs.Prelude.{◌≡◌, ◌<◌, ◌&&◌, ◌∷◌}
use Rattle.gm_pieces.specs.Common.{ℕ, zero, suc, Bool, true, false, eqb, eqb-true, ltb-true, List, [], map, length, refl, sym, ap, ap₂, ◌∙◌, arith, list_all, range_with_len, true≢false, and_left, and_right, members, same_list, same_list_true, map_once, bit_weight, at_below, agree, agree_same}
use Rattle.gm_pieces.specs.SmallTables.{implies}
use Rattle.gm_hare.specs.declared.hunt.Hunt.{Hunt}
use Rattle.gm_hare.specs.Board.{legal}

pub chosen : (x y : Bool) → implies x y ≡ true → x ≡ true → y ≡ true
chosen true y e f = e
chosen false y e f = absurd (true≢false (sym f))

-- ---- lists of tests
-- a test passes at each list of n tests
abbrev pub of_lists : ℕ → (List Bool → Bool) → Bool
of_lists zero p = p []
of_lists (suc n) p = of_lists n (λ xs. p (true ∷ xs)) && of_lists n (λ xs. p (false ∷ xs))

pub each_list : (n : ℕ) (p : List Bool → Bool) → of_lists n p ≡ true → (xs : List Bool) → length xs ≡ n → p xs ≡ true
each_list zero p e [] l = e
each_list zero p e (x ∷ xs) l = absurd (omega (arith, l))
each_list (suc n) p e [] l = absurd (omega (arith, l))
each_list (suc n) p e (true ∷ xs) l = each_list n (λ xs. p (true ∷ xs)) (and_left _ _ e) xs (omega (arith, l))
each_list (suc n) p e (false ∷ xs) l = each_list n (λ xs. p (false ∷ xs)) (and_right _ _ e) xs (omega (arith, l))

-- ---- boards
-- the board with these parts
abbrev pub hunt : Bool → List Bool → ℕ → Hunt
hunt x h r = record { hounds_move = x; hounds = h; hare = r }

abbrev of_turns : (Hunt → Bool) → List Bool → ℕ → Bool
of_turns p h r = implies (legal (hunt true h r)) (p (hunt true h r) && p (hunt false h r))

abbrev of_three : (Hunt → Bool) → List Bool → Bool
of_three p h = implies (eqb (members h) 3) (list_all (of_turns p h) (range_with_len 0 11))

-- a test passes at each legal board
abbrev pub of_boards : (Hunt → Bool) → Bool
of_boards p = of_lists 11 (of_three p)

pub hare_below : (b : Hunt) → legal b ≡ true → b.hare < 11
unfolding legal
hare_below b l = ltb-true _ _ (and_left _ _ (and_right _ _ (and_right _ _ l)))

pub eleven : (b : Hunt) → legal b ≡ true → length b.hounds ≡ 11
unfolding legal
eleven b l = eqb-true _ _ (and_left _ _ l)

by_turn : (p : Hunt → Bool) (x : Bool) (h : List Bool) (r : ℕ) → of_turns p h r ≡ true → legal (hunt x h r) ≡ true → p (hunt x h r) ≡ true
unfolding legal
by_turn p true h r e l = and_left _ _ (chosen _ _ e l)
by_turn p false h r e l = and_right (p (hunt true h r)) _ (chosen _ _ e l)

pub each : (p : Hunt → Bool) → of_boards p ≡ true → (b : Hunt) → legal b ≡ true → p b ≡ true
unfolding legal
each p e b l =
    let h = b.hounds in
    let few = and_left (eqb (members h) 3) _ (and_right (eqb (length h) 11) _ l) in
    let t = chosen (eqb (members h) 3) _ (each_list 11 (of_three p) e h (eleven b l)) few in
    by_turn p b.hounds_move h b.hare (at_below 11 (of_turns p h) t b.hare (hare_below b l)) l

-- ---- boards that are the same
abbrev pub same : Hunt → Hunt → Bool
same x y = agree x.hounds_move y.hounds_move && (same_list (map bit_weight x.hounds) (map bit_weight y.hounds) && eqb x.hare y.hare)

back : (x : Bool) → eqb (bit_weight x) 1 ≡ x
back true = refl
back false = refl

pub same_hunt : (x y : Hunt) → same x y ≡ true → x ≡ y
same_hunt x y e =
    let f = and_right (agree x.hounds_move y.hounds_move) _ e in
    ap (λ (t : Bool). hunt t x.hounds x.hare) (agree_same _ _ (and_left _ _ e))
    ∙ ap₂ (λ (h : List Bool) (r : ℕ). hunt y.hounds_move h r)
    (map_once bit_weight (λ n. eqb n 1) back x.hounds y.hounds (same_list_true _ _ (and_left _ _ f))) (eqb-true _ _ (and_right _ _ f))
