-- Squares under symmetries: tables, checked by computation, over squares and ways, and the facts about a man's attacks that follow from them.
use Rattle.std.specs.Prelude.{◌≡◌, ◌+◌, ◌<◌, ◌≤◌, ◌&&◌, ◌||◌, ◌*◌, ◌/◌, ◌%◌, ◌-◌, ◌∷◌, ◌==◌, nat_lt, if◌then◌else◌}
use Rattle.gm_pieces.specs.Common.{ℕ, zero, suc, Bool, true, false, not, eqb, eqb-true, eq-eqb, leb, ltb, ltb-true, lt-ltb, List, [], refl, sym, ap, ◌∙◌, subst, arith, inl, inr, Contains, list_all, list_any, range_with_len, cases_Bool, true≢false, and_left, and_right, and_both, all_at, any_at, any_from, same_tests, at_below, at_all, at_each, range_below, agree, agree_same, or_cases, contains_head, contains_later, get_or, has_cell}
use Rattle.gm_squares.specs.declared.attacks.TheConstants.{NEXT}
use Rattle.gm_squares.specs.Squares.{goes_on_board, beside}
use Rattle.gm_squares.specs.Chess.{ray, reaches, attacks, king_attacks, piece_attacks, piece_ways, all_ways, rook_ways, image_square}

-- ---- tables
abbrev pub implies : Bool → Bool → Bool
implies x y = if x then y else true

pub chosen : (x y : Bool) → implies x y ≡ true → x ≡ true → y ≡ true
chosen true y e f = e
chosen false y e f = absurd (true≢false (sym f))

-- the image of a way
abbrev turned_if : Bool → ℕ → ℕ
turned_if x k = if x then 2 - k else k

abbrev placed_if : Bool → ℕ → ℕ → ℕ
placed_if x r f = if x then 3 * f + r else 3 * r + f

unfoldable pub image_way : ℕ → ℕ → ℕ
image_way x d = placed_if (eqb (x / 4) 1) (turned_if (eqb (x % 2) 1) (d / 3)) (turned_if (eqb (x / 2 % 2) 1) (d % 3))

-- a symmetry takes the next square on a way to the next square of the image on the image of the way
abbrev keeps_beside : ℕ → ℕ → ℕ → Bool
keeps_beside x d s =
    agree (goes_on_board (image_way x d) (image_square x s)) (goes_on_board d s)
    && implies (goes_on_board d s) (eqb (beside (image_way x d) (image_square x s)) (image_square x (beside d s)) && ltb (beside d s) 64)

beside_table : list_all (λ x. at_all 9 65 (keeps_beside x)) (range_with_len 0 8) ≡ true
unfolding goes_on_board beside image_square image_way
beside_table = refl

beside_at : (x d s : ℕ) → x < 8 → d < 9 → s < 65 → keeps_beside x d s ≡ true
beside_at x d s l k h = at_each 9 65 (keeps_beside x) (at_below 8 (λ x. at_all 9 65 (keeps_beside x)) beside_table x l) d s k h

-- an image is on the board if and only if the square is
board_table : at_all 8 65 (λ x s. agree (ltb (image_square x s) 64) (ltb s 64)) ≡ true
unfolding image_square
board_table = refl

pub image_on_board : (x s : ℕ) → x < 8 → s ≤ 64 → ltb (image_square x s) 64 ≡ ltb s 64
image_on_board x s l b = agree_same _ _ (at_each 8 65 (λ x s. agree (ltb (image_square x s) 64) (ltb s 64)) board_table x s l (omega (arith, b)))

pub image_below : (x s : ℕ) → x < 8 → s < 64 → image_square x s < 64
image_below x s l h = ltb-true _ _ (image_on_board x s l (omega (arith, h)) ∙ lt-ltb s 64 h)

-- each symmetry has an inverse, and the product of two symmetries is a symmetry
abbrev same_after : ℕ → ℕ → ℕ → Bool
same_after x y k = list_all (λ s. eqb (image_square x (image_square y s)) (image_square k s)) (range_with_len 0 65)

abbrev has_product : ℕ → ℕ → Bool
has_product x y = list_any (same_after x y) (range_with_len 0 8)

product_table : at_all 8 8 has_product ≡ true
unfolding image_square
product_table = refl

abbrev undoes : ℕ → ℕ → Bool
undoes x y = list_all (λ s. eqb (image_square y (image_square x s)) s) (range_with_len 0 65)

abbrev has_inverse : ℕ → Bool
has_inverse x = list_any (undoes x) (range_with_len 0 8)

inverse_table : list_all has_inverse (range_with_len 0 8) ≡ true
unfolding image_square
inverse_table = refl

identity_table : list_all (λ s. eqb (image_square 0 s) s) (range_with_len 0 65) ≡ true
unfolding image_square
identity_table = refl

pub image_identity : (s : ℕ) → s ≤ 64 → image_square 0 s ≡ s
image_identity s l = eqb-true _ _ (at_below 65 (λ s. eqb (image_square 0 s) s) identity_table s (omega (arith, l)))

pub image_product : (x y : ℕ) → x < 8 → y < 8 → (k : ℕ) × (k < 8) × ((s : ℕ) → s ≤ 64 → image_square x (image_square y s) ≡ image_square k s)
image_product x y l h =
    let z = any_at (same_after x y) (range_with_len 0 8) (at_each 8 8 has_product product_table x y l h) in (
      z.0,
      range_below 8 z.0 z.1,
      λ s b. eqb-true _ _ (at_below 65 (λ s. eqb (image_square x (image_square y s)) (image_square z.0 s)) z.2 s (omega (arith, b))),
    )

pub image_inverse : (x : ℕ) → x < 8 → (y : ℕ) × (y < 8) × ((s : ℕ) → s ≤ 64 → image_square y (image_square x s) ≡ s)
image_inverse x l =
    let z = any_at (undoes x) (range_with_len 0 8) (at_below 8 has_inverse inverse_table x l) in
    (z.0, range_below 8 z.0 z.1, λ s b. eqb-true _ _ (at_below 65 (λ s. eqb (image_square z.0 (image_square x s)) s) z.2 s (omega (arith, b))))

-- the square of men that are taken is fixed
pub image_taken : (x : ℕ) → image_square x 64 ≡ 64
unfolding image_square
image_taken x = refl

-- images are equal if and only if the squares are
pub image_same : (x a c : ℕ) → x < 8 → a ≤ 64 → c ≤ 64 → eqb (image_square x a) (image_square x c) ≡ eqb a c
image_same x a c l h k =
    let y = image_inverse x l in
    same_tests _ _
    (λ e. eq-eqb a c (sym (y.2 a h) ∙ ap (image_square y.0) (eqb-true _ _ e) ∙ y.2 c k))
    (λ e. eq-eqb _ _ (ap (image_square x) (eqb-true a c e)))

-- ---- ways
abbrev is_way_kept : List ℕ → ℕ → ℕ → Bool
is_way_kept ways x d = ltb d 9 && (list_any (λ k. eqb k (image_way x d)) ways && list_any (λ k. eqb (image_way x k) d) ways)

abbrev pub are_ways_kept : List ℕ → Bool
are_ways_kept ways = list_all (λ x. list_all (is_way_kept ways x) ways) (range_with_len 0 8)

pub all_kept : are_ways_kept all_ways ≡ true
unfolding image_way
all_kept = refl

rook_kept : are_ways_kept rook_ways ≡ true
unfolding image_way
rook_kept = refl

pub piece_kept : (q : Bool) → are_ways_kept (piece_ways q) ≡ true
piece_kept true = all_kept
piece_kept false = rook_kept

-- ---- the squares that a man reaches
reach_one : (x y : ℕ) (xs ys : List ℕ) (c u v c' u' v' : ℕ) → eqb x c ≡ eqb y c' → eqb x u ≡ eqb y u' → eqb x v ≡ eqb y v'
    → reaches xs c u v ≡ reaches ys c' u' v' → reaches (x ∷ xs) c u v ≡ reaches (y ∷ ys) c' u' v'
unfolding reaches
reach_one x y xs ys c u v c' u' v' e f g h = rw (e, f, g, h) refl

-- a man on the image of a square reaches the images of the squares that it reaches
pub reaches_image : (n x d s c u v : ℕ) → x < 8 → d < 9 → s ≤ 64 → c ≤ 64 → u ≤ 64 → v ≤ 64
    → reaches (ray n (image_way x d) (image_square x s)) (image_square x c) (image_square x u) (image_square x v) ≡ reaches (ray n d s) c u v
unfolding ray reaches
reaches_image zero x d s c u v l k b bc bu bv = refl
reaches_image (suc n) x d s c u v l k b bc bu bv =
    let t = beside_at x d s l k (omega (arith, b)) in
    let w = beside d s in
    let z = beside (image_way x d) (image_square x s) in
    let f = λ (y : ℕ). image_square x y in
    let same = agree_same (goes_on_board (image_way x d) (image_square x s)) (goes_on_board d s) (and_left _ _ t) in
    elim (cases_Bool (goes_on_board d s)) [
      | inr off ↦ rw (same, off) refl
      | inl on ↦ rw (same, on) (
          let g = chosen _ _ (and_right (agree (goes_on_board (image_way x d) (image_square x s)) (goes_on_board d s)) _ t) on in
          let next : z ≡ f w = eqb-true _ _ (and_left _ _ g) in
          let few : w < 64 = ltb-true w 64 (and_right (eqb z (f w)) _ g) in
          let low : w ≤ 64 = omega (arith, few) in
          reach_one z w (ray n (image_way x d) z) (ray n d w) (f c) (f u) (f v) c u v
          (ap (λ (y : ℕ). eqb y (f c)) next ∙ image_same x w c l low bc)
          (ap (λ (y : ℕ). eqb y (f u)) next ∙ image_same x w u l low bu)
          (ap (λ (y : ℕ). eqb y (f v)) next ∙ image_same x w v l low bv)
          (ap (λ (y : ℕ). reaches (ray n (image_way x d) y) (f c) (f u) (f v)) next ∙ reaches_image n x d w c u v l k low bc bu bv))
    ]

-- a man attacks the image of a square from the image of another if and only if it attacks the one square from the other
attacks_image : (ways : List ℕ) (n x a c u v : ℕ) → are_ways_kept ways ≡ true → x < 8 → a ≤ 64 → c ≤ 64 → u ≤ 64 → v ≤ 64
    → attacks n ways (image_square x a) (image_square x c) (image_square x u) (image_square x v) ≡ attacks n ways a c u v
attacks_image ways n x a c u v kept l ba bc bu bv =
    let at = λ (d : ℕ) (i : Contains ways d). all_at (is_way_kept ways x) ways d (at_below 8 (λ x. list_all (is_way_kept ways x) ways) kept x l) i in
    let p = λ (d : ℕ). reaches (ray n d a) c u v in
    let r = λ (d : ℕ). reaches (ray n d (image_square x a)) (image_square x c) (image_square x u) (image_square x v) in
    let same = λ (d : ℕ) (i : Contains ways d). reaches_image n x d a c u v l (ltb-true _ _ (and_left _ _ (at d i))) ba bc bu bv in
    same_tests _ _
    (λ e.
    let z = any_at r ways e in
    let k = any_at (λ k. eqb (image_way x k) z.0) ways (and_right (list_any (λ k. eqb k (image_way x z.0)) ways) _ (and_right (ltb z.0 9) _ (at z.0 z.1))) in
    any_from p ways k.0 k.1 (sym (same k.0 k.1) ∙ ap r (eqb-true _ _ k.2) ∙ z.2))
    (λ e.
    let z = any_at p ways e in
    let k = any_at (λ k. eqb k (image_way x z.0)) ways (and_left _ _ (and_right (ltb z.0 9) _ (at z.0 z.1))) in
    any_from r ways k.0 k.1 (ap r (eqb-true _ _ k.2) ∙ same z.0 z.1 ∙ z.2))

pub king_image : (x a c : ℕ) → x < 8 → a ≤ 64 → c ≤ 64 → king_attacks (image_square x a) (image_square x c) ≡ king_attacks a c
unfolding king_attacks
king_image x a c l ba bc =
    subst (λ (t : ℕ). attacks 1 all_ways (image_square x a) (image_square x c) t t ≡ attacks 1 all_ways a c 64 64) (image_taken x)
    (attacks_image all_ways 1 x a c 64 64 all_kept l ba bc (omega arith) (omega arith))

pub piece_image : (q : Bool) (x a c u v : ℕ) → x < 8 → a ≤ 64 → c ≤ 64 → u ≤ 64 → v ≤ 64
    → piece_attacks q (image_square x a) (image_square x c) (image_square x u) (image_square x v) ≡ piece_attacks q a c u v
unfolding piece_attacks
piece_image q x a c u v l ba bc bu bv = attacks_image (piece_ways q) 7 x a c u v (piece_kept q) l ba bc bu bv

-- ---- the way from a square to another
unfoldable pub way_to : ℕ → ℕ → ℕ
way_to a c =
    if a / 8 == c / 8 then (if nat_lt (a % 8) (c % 8) then 5 else 3)
    else (if a % 8 == c % 8 then (if nat_lt (a / 8) (c / 8) then 7 else 1)
    else (if a / 8 + c % 8 == c / 8 + a % 8 then (if nat_lt (a / 8) (c / 8) then 8 else 0)
    else (if a / 8 + a % 8 == c / 8 + c % 8 then (if nat_lt (a / 8) (c / 8) then 6 else 2) else 4)))

abbrev pub is_among : List ℕ → ℕ → Bool
is_among xs c = list_any (λ x. eqb x c) xs

-- a man that meets a square on one of its ways goes there on the way from one square to the other
abbrev is_only_way : Bool → ℕ → ℕ → Bool
is_only_way q a c = list_all (λ d. implies (is_among (ray 7 d a) c) (eqb d (way_to a c))) (piece_ways q)

only_way : (q : Bool) → at_all 64 64 (is_only_way q) ≡ true
unfolding goes_on_board beside ray way_to
only_way true = refl
only_way false = refl

pub met : (xs : List ℕ) (c u v : ℕ) → reaches xs c u v ≡ true → is_among xs c ≡ true
unfolding reaches
met [] c u v e = absurd (true≢false (sym e))
met (x ∷ xs) c u v e = elim (or_cases (eqb x c) (not (eqb x u || eqb x v) && reaches xs c u v) e) [
  | inl f ↦ any_from (λ y. eqb y c) (x ∷ xs) x (contains_head x xs) f
  | inr f ↦ (
      let z = any_at (λ y. eqb y c) xs (met xs c u v (and_right (not (eqb x u || eqb x v)) _ f)) in
      any_from (λ y. eqb y c) (x ∷ xs) z.0 (contains_later x xs z.0 z.1) z.2)
]

pub piece_by_way : (q : Bool) (a c u v : ℕ) → a < 64 → c < 64
    → piece_attacks q a c u v ≡ (is_among (piece_ways q) (way_to a c) && reaches (ray 7 (way_to a c) a) c u v)
unfolding piece_attacks
piece_by_way q a c u v l h =
    let w = way_to a c in
    same_tests _ _
    (λ e.
    let z = any_at (λ d. reaches (ray 7 d a) c u v) (piece_ways q) e in
    let t = all_at (λ d. implies (is_among (ray 7 d a) c) (eqb d w)) (piece_ways q) z.0 (at_each 64 64 (is_only_way q) (only_way q) a c l h) z.1 in
    let same : z.0 ≡ w = eqb-true _ _ (chosen _ _ t (met (ray 7 z.0 a) c u v z.2)) in
    and_both _ _ (any_from (λ d. eqb d w) (piece_ways q) z.0 z.1 (eq-eqb _ _ same)) (ap (λ (d : ℕ). reaches (ray 7 d a) c u v) (sym same) ∙ z.2))
    (λ e.
    let z = any_at (λ d. eqb d w) (piece_ways q) (and_left _ _ e) in
    any_from (λ d. reaches (ray 7 d a) c u v) (piece_ways q) z.0 z.1
    (ap (λ (d : ℕ). reaches (ray 7 d a) c u v) (eqb-true _ _ z.2) ∙ and_right (is_among (piece_ways q) w) _ e))

-- a man that is off the board attacks nothing
pub none_from : (q : Bool) (a c u v : ℕ) → ltb a 64 ≡ false → piece_attacks q a c u v ≡ false
unfolding piece_attacks ray goes_on_board reaches
none_from true a c u v e = rw e refl
none_from false a c u v e = rw e refl

-- a king attacks the squares next to its own
abbrev pub is_near : ℕ → ℕ → Bool
is_near a c =
    not (eqb a c) && (leb (a / 8) (c / 8 + 1) && (leb (c / 8) (a / 8 + 1) && (leb (a % 8) (c % 8 + 1) && leb (c % 8) (a % 8 + 1))))

near_table : at_all 64 64 (λ a c. agree (is_near a c) (king_attacks a c)) ≡ true
unfolding king_attacks goes_on_board beside ray reaches
near_table = refl

pub near_test : (a c : ℕ) → a < 64 → c < 64 → is_near a c ≡ king_attacks a c
near_test a c l h = agree_same _ _ (at_each 64 64 (λ a c. agree (is_near a c) (king_attacks a c)) near_table a c l h)

mutual_table : at_all 64 64 (λ a c. agree (is_near a c) (is_near c a)) ≡ true
mutual_table = refl

-- a king attacks one square from another if and only if it attacks the second from the first
pub king_mutual : (a c : ℕ) → a < 64 → c < 64 → king_attacks a c ≡ king_attacks c a
king_mutual a c l h =
    sym (near_test a c l h) ∙ agree_same _ _ (at_each 64 64 (λ a c. agree (is_near a c) (is_near c a)) mutual_table a c l h) ∙ near_test c a h l

-- the table of the squares next to each
next_table : at_all 64 64 (λ a c. agree (has_cell (get_or NEXT a 0) c) (is_near a c)) ≡ true
next_table = refl

pub next_test : (a c : ℕ) → a < 64 → c < 64 → has_cell (get_or NEXT a 0) c ≡ king_attacks a c
next_test a c l h = agree_same _ _ (at_each 64 64 (λ a c. agree (has_cell (get_or NEXT a 0) c) (is_near a c)) next_table a c l h) ∙ near_test a c l h
