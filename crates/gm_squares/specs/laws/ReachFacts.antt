-- A rook or queen attacks the squares that it reaches along its lines.
use Rattle.std.specs.Prelude.{◌≡◌, ◌-◌, ◌*◌, ◌%◌, ◌^◌, ◌<◌, ◌≤◌, ◌&&◌, ◌||◌, ◌∷◌, if◌then◌else◌}
use Rattle.gm_pieces.specs.Common.{ℕ, zero, suc, Bool, true, false, not, eqb, eqb-true, eq-eqb, ltb, List, [], refl, sym, ap, ap₂, ◌∙◌, subst, arith, nat_tests, inl, inr, ltb-true, cases_Bool, cases_lt, cases_eq, ne_eqb, bit_and, bit_or, has_cell, has_and, has_or, Contains, list_all, list_any, all_at, any_at, any_from, same_tests, and_left, and_right, and_both, at_all, at_each, agree, agree_same, true≢false, bit_at-pow_same, bit_at-pow_other, bit_at-zero, bit_at_above, false_from_ne_true, and_false, cond-true, cond-false, not-true}
use Rattle.gm_board.specs.laws.NextCells.{cell_one, cell_none}
use Rattle.gm_squares.specs.Chess.{piece_attacks, piece_ways, ray, reaches}
use Rattle.gm_squares.specs.Squares.{goes_on_board, beside}
use Rattle.gm_squares.specs.inner.Lines.{line_mask, lies_between, is_open_line, lines_of, goes_along}
use Rattle.gm_squares.specs.laws.AttackFacts.{is_among, way_to, piece_by_way, met}
use Rattle.gm_squares.specs.laws.LineFacts.{squares_above, squares_below, past_both, has_not}

-- ---- men on a way
-- the squares before a square on a way
abbrev before : List ℕ → ℕ → List ℕ
before [] c = []
before (x ∷ xs) c = if eqb x c then [] else x ∷ before xs c

stop_here : (e p m r : Bool) → (e || (not (p || p) && (m && not r))) ≡ ((e || m) && not (if e then false else (p || r)))
stop_here true p m r = refl
stop_here false true m r = sym (and_false m)
stop_here false false m r = refl

among_before : (x : ℕ) (xs : List ℕ) (c u : ℕ) → is_among (before (x ∷ xs) c) u ≡ (if eqb x c then false else (eqb x u || is_among (before xs c) u))
among_before x xs c u = elim (cases_Bool (eqb x c)) [ inl e ↦ rw e refl | inr e ↦ rw e refl ]

-- one man stops another that comes to it first
stop_one : (xs : List ℕ) (c u : ℕ) → reaches xs c u u ≡ (is_among xs c && not (is_among (before xs c) u))
unfolding reaches
stop_one [] c u = refl
stop_one (x ∷ xs) c u =
    ap (λ (t : Bool). eqb x c || (not (eqb x u || eqb x u) && t)) (stop_one xs c u)
    ∙ stop_here (eqb x c) (eqb x u) (is_among xs c) (is_among (before xs c) u)
    ∙ ap (λ (t : Bool). (eqb x c || is_among xs c) && not t) (sym (among_before x xs c u))

both_here : (e p r a b : Bool) → (e || (not (p || r) && (a && b))) ≡ ((e || (not (p || p) && a)) && (e || (not (r || r) && b)))
both_here true p r a b = refl
both_here false true r a b = refl
both_here false false true true b = refl
both_here false false true false b = refl
both_here false false false a b = refl

-- of two men each stops for itself
stop_two : (xs : List ℕ) (c u v : ℕ) → reaches xs c u v ≡ (reaches xs c u u && reaches xs c v v)
unfolding reaches
stop_two [] c u v = refl
stop_two (x ∷ xs) c u v =
    ap (λ (t : Bool). eqb x c || (not (eqb x u || eqb x v) && t)) (stop_two xs c u v)
    ∙ both_here (eqb x c) (eqb x u) (eqb x v) (reaches xs c u u) (reaches xs c v v)

-- ---- masks of lists of squares
abbrev bits : List ℕ → ℕ
bits [] = 0
bits (x ∷ xs) = bit_or (2 ^ x) (bits xs)

one_bit : (x u : ℕ) → has_cell (2 ^ x) u ≡ eqb x u
one_bit x u = elim (cases_eq u x) [
  | inl e ↦ rw e (cell_one (2 ^ x) x (bit_at-pow_same x) ∙ sym (eq-eqb x x refl))
  | inr n ↦ cell_none (2 ^ x) u (bit_at-pow_other x u n) ∙ sym (ne_eqb x u (λ q. n (sym q)))
]

has_bits : (xs : List ℕ) (u : ℕ) → has_cell (bits xs) u ≡ is_among xs u
has_bits [] u = cell_none 0 u (bit_at-zero u)
has_bits (x ∷ xs) u = has_or (2 ^ x) (bits xs) u ∙ ap₂ (λ (s t : Bool). s || t) (one_bit x u) (has_bits xs u)

-- the squares between two numbers
abbrev above : ℕ → ℕ
above s = 18446744073709551614 * 2 ^ s % 2 ^ 64

abbrev below : ℕ → ℕ
below s = 1 * 2 ^ s % 2 ^ 64 - 1

abbrev between : ℕ → ℕ → ℕ
between a c = if ltb a c then bit_and (above a) (below c) else bit_and (above c) (below a)

up_between : (a c u : ℕ) → a < c → (ltb a u && ltb u c) ≡ lies_between a c u
up_between a c u l = grind (arith, nat_tests)

down_between : (a c u : ℕ) → c ≤ a → (ltb c u && ltb u a) ≡ lies_between a c u
down_between a c u l = grind (arith, nat_tests)

has_between : (a c u : ℕ) → a < 64 → c < 64 → u < 64 → has_cell (between a c) u ≡ lies_between a c u
has_between a c u l h k = elim (cases_lt a c) [
  | inl m ↦ (let e : ltb a c ≡ true = grind (arith, nat_tests) in
      rw e (has_and (above a) (below c) u ∙ ap₂ (λ (s t : Bool). s && t) (squares_above a u l k) (squares_below c u h k) ∙ up_between a c u m))
  | inr m ↦ (let e : ltb a c ≡ false = grind (arith, nat_tests) in
      rw e (has_and (above c) (below a) u ∙ ap₂ (λ (s t : Bool). s && t) (squares_above c u h k) (squares_below a u l k) ∙ down_between a c u m))
]

-- the part of a line between two squares
part_has : (line a c u : ℕ) → line < 2 ^ 64 → a < 64 → c < 64 → has_cell (bit_and line (between a c)) u ≡ (has_cell line u && lies_between a c u)
part_has line a c u f l h = elim (cases_lt u 64) [
  | inl k ↦ has_and line (between a c) u ∙ ap (λ (t : Bool). has_cell line u && t) (has_between a c u l h k)
  | inr k ↦ (let e = cell_none line u (bit_at_above line 64 u f k) in
      has_and line (between a c) u ∙ ap (λ (t : Bool). t && has_cell (between a c) u) e
      ∙ sym (ap (λ (t : Bool). has_cell line u && t) (past_both a c u l h k) ∙ and_false (has_cell line u)))
]

-- ---- lines and ways
abbrev line_of : ℕ → ℕ
line_of d = if eqb (d % 2) 1 then (if eqb d 3 || eqb d 5 then 0 else 1) else (if eqb d 0 || eqb d 8 then 2 else 3)

-- what computing shows for each two squares: on its way from a to c, if there is one, a man goes along one line
abbrev pub is_along : Bool → ℕ → ℕ → Bool
is_along q a c =
    if eqb c a then not (is_among (ray 7 (way_to a c) a) c)
    else (if is_among (piece_ways q) (way_to a c) then
    (list_any (λ x. eqb x (line_of (way_to a c))) (lines_of q) && (list_all (λ x. agree (has_cell (line_mask x a) c) (eqb x (line_of (way_to a c)))) (lines_of q)
    && (is_among (ray 7 (way_to a c) a) c
    && (ltb (line_mask (line_of (way_to a c)) a) (2 ^ 64) && eqb (bits (before (ray 7 (way_to a c) a) c)) (bit_and (line_mask (line_of (way_to a c)) a) (between a c))))))
    else list_all (λ x. not (has_cell (line_mask x a) c)) (lines_of q))

pub along_table : (q : Bool) → at_all 64 64 (is_along q) ≡ true
unfolding goes_on_board beside ray way_to line_mask
along_table true = refl
along_table false = refl

-- ---- attacks
-- of some lines one has the square, and along it the way is as open as along the way
one_line : (xs : List ℕ) (w : ℕ) (has : ℕ → Bool) (way : ℕ → Bool) → list_any (λ x. eqb x w) xs ≡ true → list_all (λ x. agree (has x) (eqb x w)) xs ≡ true
    → list_any (λ x. has x && way x) xs ≡ way w
one_line xs w has way some each = same_tests _ _
    (λ e.
    let z = any_at (λ x. has x && way x) xs e in
    let same : has z.0 ≡ eqb z.0 w = agree_same _ _ (all_at (λ x. agree (has x) (eqb x w)) xs z.0 each z.1) in
    ap way (sym (eqb-true z.0 w (sym same ∙ and_left _ _ z.2))) ∙ and_right (has z.0) _ z.2)
    (λ e.
    let z = any_at (λ x. eqb x w) xs some in
    let same : has z.0 ≡ eqb z.0 w = agree_same _ _ (all_at (λ x. agree (has x) (eqb x w)) xs z.0 each z.1) in
    any_from (λ x. has x && way x) xs z.0 z.1 (and_both _ _ (same ∙ z.2) (ap way (eqb-true z.0 w z.2) ∙ e)))

-- no line has the square
no_line : (xs : List ℕ) (has way : ℕ → Bool) → ((x : ℕ) → Contains xs x → has x ≡ false) → list_any (λ x. has x && way x) xs ≡ false
no_line xs has way none = false_from_ne_true _ (λ e.
    let z = any_at (λ x. has x && way x) xs e in true≢false (sym (and_left _ _ z.2) ∙ none z.0 z.1))

module _ (q : Bool) (a c : ℕ) (l : a < 64) (h : c < 64) where
  abbrev w : ℕ
  w = way_to a c

  -- to its own square a man goes along no line
  own_square : (u v : ℕ) → eqb c a ≡ true → list_any (λ x. goes_along (line_mask x a) a c u v) (lines_of q) ≡ false
  own_square u v e = false_from_ne_true _ (λ f.
      let z = any_at (λ x. goes_along (line_mask x a) a c u v) (lines_of q) f in
      true≢false (sym (and_left _ _ (and_right (has_cell (line_mask z.0 a) c) _ z.2)) ∙ ap not e))

  table : is_along q a c ≡ true
  table = at_each 64 64 (is_along q) (along_table q) a c l h

  reached : (u v : ℕ) → reaches (ray 7 w a) c u v
      ≡ ((is_among (ray 7 w a) c && not (is_among (before (ray 7 w a) c) u)) && (is_among (ray 7 w a) c && not (is_among (before (ray 7 w a) c) v)))
  reached u v = stop_two (ray 7 w a) c u v ∙ ap₂ (λ (s t : Bool). s && t) (stop_one (ray 7 w a) c u) (stop_one (ray 7 w a) c v)

  pub attacks_along : (u v : ℕ) → piece_attacks q a c u v ≡ list_any (λ x. goes_along (line_mask x a) a c u v) (lines_of q)
  attacks_along u v =
      let xs = lines_of q in
      let among = is_among (piece_ways q) w in
      let way = piece_by_way q a c u v l h in
      elim (cases_Bool (eqb c a)) [
        | inl e ↦ (
            let none = not-true _ (sym (cond-true (eqb c a) _ _ e) ∙ table) in
            let stopped : reaches (ray 7 w a) c u v ≡ false = false_from_ne_true _ (λ f. true≢false (sym (met (ray 7 w a) c u v f) ∙ none)) in
            way ∙ ap (λ (t : Bool). among && t) stopped ∙ and_false among ∙ sym (own_square u v e))
        | inr e ↦ (
            let t1 = sym (cond-false (eqb c a) _ _ e) ∙ table in
            elim (cases_Bool among) [
              | inr f ↦ (
                  let t2 = sym (cond-false among _ _ f) ∙ t1 in
                  way ∙ ap (λ (t : Bool). t && reaches (ray 7 w a) c u v) f
                  ∙ sym (no_line xs (λ x. has_cell (line_mask x a) c) (λ x. not (eqb c a) &&
                  (is_open_line (line_mask x a) a c u && is_open_line (line_mask x a) a c v))
                  (λ x i. not-true _ (all_at (λ x. not (has_cell (line_mask x a) c)) xs x t2 i))))
              | inl f ↦ (
                  let t2 = sym (cond-true among _ _ f) ∙ t1 in
                  let line = line_mask (line_of w) a in
                  let some = and_left _ _ t2 in
                  let r1 = and_right (list_any (λ x. eqb x (line_of w)) xs) _ t2 in
                  let each = and_left _ _ r1 in
                  let r2 = and_right (list_all (λ x. agree (has_cell (line_mask x a) c) (eqb x (line_of w))) xs) _ r1 in
                  let here = and_left _ _ r2 in
                  let r3 = and_right (is_among (ray 7 w a) c) _ r2 in
                  let fits = ltb-true _ _ (and_left _ _ r3) in
                  let part : bits (before (ray 7 w a) c) ≡ bit_and line (between a c) = eqb-true _ _ (and_right (ltb line (2 ^ 64)) _ r3) in
                  let stop : (x : ℕ) → not (is_among (before (ray 7 w a) c) x) ≡ is_open_line line a c x = λ x. ap not (sym (has_bits (before (ray 7 w a) c) x)
                  ∙ ap (λ (m : ℕ). has_cell m x) part ∙ part_has line a c x fits l h) in
                  way
                  ∙ ap₂ (λ (s t : Bool). s && t) f (reached u v ∙ ap (λ (t : Bool). (t && not (is_among (before (ray 7 w a) c) u)) && (t && not (is_among (before (ray 7 w a) c) v))) here
                  ∙ ap₂ (λ (s t : Bool). s && t) (stop u) (stop v))
                  ∙ sym (one_line xs (line_of w) (λ x. has_cell (line_mask x a) c) (λ x. not (eqb c a) && (is_open_line (line_mask x a) a c u && is_open_line (line_mask x a) a c v)) some each
                  ∙ ap (λ (t : Bool). not t && (is_open_line line a c u && is_open_line line a c v)) e))
            ])
      ]

pub or_none : (t : Bool) → (t || false) ≡ t
or_none true = refl
or_none false = refl

-- the squares that a rook or queen reaches along two or four lines
pub rook_reach : (a c u v r f : ℕ) → a < 64 → c < 64 → has_cell r c ≡ goes_along (line_mask 0 a) a c u v → has_cell f c ≡ goes_along (line_mask 1 a) a c u v
    → has_cell (bit_or r f) c ≡ piece_attacks false a c u v
rook_reach a c u v r f l h e g =
    has_or r f c ∙ ap₂ (λ (s t : Bool). s || t) e (g ∙ sym (or_none (goes_along (line_mask 1 a) a c u v)))
    ∙ sym (attacks_along false a c l h u v)

four_lines : (s t x y : Bool) → (((s || t) || x) || y) ≡ (s || (t || (x || (y || false))))
four_lines true t x y = refl
four_lines false true x y = refl
four_lines false false true y = refl
four_lines false false false true = refl
four_lines false false false false = refl

pub queen_reach : (a c u v r f x y : ℕ) → a < 64 → c < 64 → has_cell r c ≡ goes_along (line_mask 0 a) a c u v → has_cell f c ≡ goes_along (line_mask 1 a) a c u v
    → has_cell x c ≡ goes_along (line_mask 2 a) a c u v → has_cell y c ≡ goes_along (line_mask 3 a) a c u v
    → has_cell (bit_or (bit_or (bit_or r f) x) y) c ≡ piece_attacks true a c u v
queen_reach a c u v r f x y l h e g i j =
    has_or (bit_or (bit_or r f) x) y c
    ∙ ap (λ (s : Bool). s || has_cell y c) (has_or (bit_or r f) x c ∙ ap (λ (s : Bool). s || has_cell x c) (has_or r f c))
    ∙ four_lines (has_cell r c) (has_cell f c) (has_cell x c) (has_cell y c)
    ∙ ap₂ (λ (s t : Bool). s || t) e (ap₂ (λ (s t : Bool). s || t) g (ap₂ (λ (s t : Bool). s || t) i (ap (λ (t : Bool). t || false) j)))
    ∙ sym (attacks_along true a c l h u v)

-- ---- one line
module _ (q : Bool) (a c : ℕ) (l : a < 64) (h : c < 64) (apart : eqb c a ≡ false) where
  -- if a line has both squares, the way between them is open or not along it
  pub attacks_on : (x u v : ℕ) → Contains (lines_of q) x → has_cell (line_mask x a) c ≡ true
      → piece_attacks q a c u v ≡ (is_open_line (line_mask x a) a c u && is_open_line (line_mask x a) a c v)
  attacks_on x u v i e =
      let xs = lines_of q in
      let t1 = sym (cond-false (eqb c a) _ _ apart) ∙ table q a c l h in
      let way : ℕ → Bool = λ x. not (eqb c a) && (is_open_line (line_mask x a) a c u && is_open_line (line_mask x a) a c v) in
      elim (cases_Bool (is_among (piece_ways q) (way_to a c))) [
        | inr f ↦ absurd (true≢false (sym e ∙ not-true _ (all_at (λ x. not (has_cell (line_mask x a) c)) xs x (sym (cond-false _ _ _ f) ∙ t1) i)))
        | inl f ↦ (
            let t2 = sym (cond-true (is_among (piece_ways q) (way_to a c)) _ _ f) ∙ t1 in
            let some = and_left _ _ t2 in
            let each = and_left _ _ (and_right (list_any (λ x. eqb x (line_of (way_to a c))) xs) _ t2) in
            let same : has_cell (line_mask x a) c ≡ eqb x (line_of (way_to a c)) =
            agree_same _ _ (all_at (λ x. agree (has_cell (line_mask x a) c) (eqb x (line_of (way_to a c)))) xs x each i) in
            attacks_along q a c l h u v
            ∙ one_line xs (line_of (way_to a c)) (λ x. has_cell (line_mask x a) c) way some each
            ∙ ap way (sym (eqb-true _ _ (sym same ∙ e)))
            ∙ ap (λ (t : Bool). not t && (is_open_line (line_mask x a) a c u && is_open_line (line_mask x a) a c v)) apart)
      ]

  -- and if no line has both, there is none
  pub attacks_off : (u v : ℕ) → ((x : ℕ) → Contains (lines_of q) x → has_cell (line_mask x a) c ≡ false) → piece_attacks q a c u v ≡ false
  attacks_off u v none =
      attacks_along q a c l h u v
      ∙ no_line (lines_of q) (λ x. has_cell (line_mask x a) c) (λ x. not (eqb c a) &&
      (is_open_line (line_mask x a) a c u && is_open_line (line_mask x a) a c v)) none

and_same : (t : Bool) → (t && t) ≡ t
and_same true = refl
and_same false = refl

-- the line through two squares, if there is one
abbrev pub IsLine : Bool → ℕ → ℕ → ℕ → Type 0
IsLine q a c line = (x : ℕ) × Contains (lines_of q) x × (line ≡ line_mask x a) × (has_cell line c ≡ true)

abbrev pub HasNoLine : Bool → ℕ → ℕ → Type 0
HasNoLine q a c = (x : ℕ) → Contains (lines_of q) x → has_cell (line_mask x a) c ≡ false

-- the squares on which a man leaves the way open
pub open_on : (q : Bool) (a c line part k : ℕ) → a < 64 → c < 64 → eqb c a ≡ false → k < 64 → part < 2 ^ 64 → IsLine q a c line
    → has_cell part k ≡ (has_cell line k && lies_between a c k) → has_cell (18446744073709551615 - part) k ≡ piece_attacks q a c k k
open_on q a c line part k l h apart j f w e =
    has_not part k f j
    ∙ ap not e
    ∙ ap (λ (m : ℕ). is_open_line m a c k) w.2
    ∙ sym (attacks_on q a c l h apart w.0 k k w.1 (ap (λ (m : ℕ). has_cell m c) (sym w.2) ∙ w.3) ∙ and_same (is_open_line (line_mask w.0 a) a c k))

pub open_off : (q : Bool) (a c k : ℕ) → a < 64 → c < 64 → eqb c a ≡ false → HasNoLine q a c → has_cell 0 k ≡ piece_attacks q a c k k
open_off q a c k l h apart none = cell_none 0 k (bit_at-zero k) ∙ sym (attacks_off q a c l h apart k k none)

-- ---- the other way
abbrev is_mutual : ℕ → ℕ → ℕ → Bool
is_mutual x a c = agree (has_cell (line_mask x a) c) (has_cell (line_mask x c) a) && (if has_cell (line_mask x a) c then eqb (line_mask x a) (line_mask x c) else true)

mutual_table : (x : ℕ) → x < 4 → at_all 64 64 (is_mutual x) ≡ true
unfolding line_mask
mutual_table zero l = refl
mutual_table (suc zero) l = refl
mutual_table (suc (suc zero)) l = refl
mutual_table (suc (suc (suc zero))) l = refl
mutual_table (suc (suc (suc (suc n)))) l = absurd (omega arith)

between_mutual : (a c u : ℕ) → lies_between a c u ≡ lies_between c a u
between_mutual a c u = grind (arith, nat_tests)

equal_mutual : (a c : ℕ) → eqb a c ≡ eqb c a
equal_mutual a c = grind (arith, nat_tests)

along_mutual : (x a c u v : ℕ) → x < 4 → a < 64 → c < 64 → goes_along (line_mask x a) a c u v ≡ goes_along (line_mask x c) c a u v
along_mutual x a c u v i l h =
    let t = at_each 64 64 (is_mutual x) (mutual_table x i) a c l h in
    let same : has_cell (line_mask x a) c ≡ has_cell (line_mask x c) a = agree_same _ _ (and_left _ _ t) in
    elim (cases_Bool (has_cell (line_mask x a) c)) [
      | inr e ↦ rw (e, sym same ∙ e) refl
      | inl e ↦ (
          let line : line_mask x a ≡ line_mask x c =
          eqb-true _ _ (sym (cond-true (has_cell (line_mask x a) c) _ _ e) ∙ and_right (agree (has_cell (line_mask x a) c) (has_cell (line_mask x c) a)) _ t) in
          ap₂ (λ (s r : Bool). s && (not r && (is_open_line (line_mask x a) a c u && is_open_line (line_mask x a) a c v))) same (equal_mutual c a)
          ∙ ap (λ (m : ℕ). has_cell (line_mask x c) a && (not (eqb a c) && (is_open_line m a c u && is_open_line m a c v))) line
          ∙ ap₂ (λ (s r : Bool). has_cell (line_mask x c) a && (not (eqb a c) && (not (has_cell (line_mask x c) u && s) && not (has_cell (line_mask x c) v && r))))
          (between_mutual a c u) (between_mutual a c v))
    ]

lines_few : (q : Bool) (x : ℕ) → Contains (lines_of q) x → x < 4
lines_few true x i = ltb-true x 4 (all_at (λ x. ltb x 4) (lines_of true) x refl i)
lines_few false x i = ltb-true x 4 (all_at (λ x. ltb x 4) (lines_of false) x refl i)

-- a rook or queen attacks one square from another if and only if it attacks the second from the first
pub piece_mutual : (q : Bool) (a c u v : ℕ) → a < 64 → c < 64 → piece_attacks q a c u v ≡ piece_attacks q c a u v
piece_mutual q a c u v l h =
    let xs = lines_of q in
    attacks_along q a c l h u v
    ∙ same_tests _ _
    (λ e. let z = any_at (λ x. goes_along (line_mask x a) a c u v) xs e in
    any_from (λ x. goes_along (line_mask x c) c a u v) xs z.0 z.1 (sym (along_mutual z.0 a c u v (lines_few q z.0 z.1) l h) ∙ z.2))
    (λ e. let z = any_at (λ x. goes_along (line_mask x c) c a u v) xs e in
    any_from (λ x. goes_along (line_mask x a) a c u v) xs z.0 z.1 (along_mutual z.0 a c u v (lines_few q z.0 z.1) l h ∙ z.2))
    ∙ sym (attacks_along q c a h l u v)

-- ---- the line through two squares, tested one after another
pub rook_line : (q : Bool) (a c x : ℕ) → x < 2 → has_cell (line_mask x a) c ≡ true → IsLine q a c (line_mask x a)
rook_line true a c zero l e = (0, (0, omega arith, refl), refl, e)
rook_line true a c (suc zero) l e = (1, (1, omega arith, refl), refl, e)
rook_line true a c (suc (suc x)) l e = absurd (omega arith)
rook_line false a c zero l e = (0, (0, omega arith, refl), refl, e)
rook_line false a c (suc zero) l e = (1, (1, omega arith, refl), refl, e)
rook_line false a c (suc (suc x)) l e = absurd (omega arith)

line_in : (x : ℕ) → x < 4 → Contains (lines_of true) x
line_in zero l = (0, omega arith, refl)
line_in (suc zero) l = (1, omega arith, refl)
line_in (suc (suc zero)) l = (2, omega arith, refl)
line_in (suc (suc (suc zero))) l = (3, omega arith, refl)
line_in (suc (suc (suc (suc x)))) l = absurd (omega arith)

pub queen_line : (q : Bool) (a c x line : ℕ) → q ≡ true → x < 4 → line ≡ line_mask x a → has_cell (line_mask x a) c ≡ true → IsLine q a c line
queen_line q a c x line t l e f =
    (x, subst (λ (b : Bool). Contains (lines_of b) x) (sym t) (line_in x l), e, ap (λ (m : ℕ). has_cell m c) e ∙ f)

no_lines : (q : Bool) (a c : ℕ) → has_cell (line_mask 0 a) c ≡ false → has_cell (line_mask 1 a) c ≡ false → (q && has_cell (line_mask 2 a) c) ≡ false
    → (q && has_cell (line_mask 3 a) c) ≡ false → list_all (λ x. not (has_cell (line_mask x a) c)) (lines_of q) ≡ true
no_lines true a c e f g h = rw (e, f, g, h) refl
no_lines false a c e f g h = rw (e, f) refl

pub no_queen_line : (q : Bool) (a c : ℕ) → has_cell (line_mask 0 a) c ≡ false → has_cell (line_mask 1 a) c ≡ false
    → (q && has_cell (line_mask 2 a) c) ≡ false → (q && has_cell (line_mask 3 a) c) ≡ false → HasNoLine q a c
no_queen_line q a c e f g h x i = not-true _ (all_at (λ x. not (has_cell (line_mask x a) c)) (lines_of q) x (no_lines q a c e f g h) i)

pub no_rook_line : (a c : ℕ) → has_cell (line_mask 0 a) c ≡ false → has_cell (line_mask 1 a) c ≡ false → HasNoLine false a c
no_rook_line a c e f = no_queen_line false a c e f refl refl
