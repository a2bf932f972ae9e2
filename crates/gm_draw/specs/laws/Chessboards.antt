-- Drawings on the board of chess: what they have in common with their positions' texts.
use Rattle.std.proofs.Common.{◌≡◌, ℕ, ◌+◌, ◌-◌, ◌*◌, ◌/◌, ◌%◌, ◌<◌, ◌≤◌, Bool, true, ◌&&◌, if◌then◌else◌, ◌||◌, List, [], ◌∷◌, ◌++◌, map, length, ◌∙◌, suc, false, eqb, eqb-true, ltb, refl, sym, ap, ap₂, subst, arith, inl, inr}
use Rattle.std.specs.List.{Contains, list_all, list_any, range_with_len}
use Rattle.std.proofs.lemmas.Bool.{cases_Bool, true≢false}
use Rattle.std.proofs.lemmas.Bool.Decides.{nat_tests}
use Rattle.std.proofs.lemmas.List.{length-map}
use Rattle.std.proofs.lemmas.List.FromFn.{length-range_with_len}
use Rattle.gm_board.specs.laws.Lists.{and_left, and_right, contains_map, contains_range}
use Rattle.gm_board.specs.laws.Permutations.{all_at}
use Rattle.gm_draw.specs.declared.drawn.TheConstants.{DRAWING}
use Rattle.gm_draw.specs.Templates.{is_slot, next_x, next_y, spread}
use Rattle.gm_draw.specs.Chessboards.{square_name, chess_points, chess_board, file_at, rank_at, is_dark, man_on, man_at, square_byte, chess_drawing}
use Rattle.gm_draw.specs.Spots.{Spot, spots}
use Rattle.gm_draw.specs.Points.{is_name, are_apart, IsPointWord}

-- ---- drawings of a byte for each byte of a board
abbrev byte_each : (ℕ → ℕ → ℕ → ℕ) → ℕ → ℕ → ℕ → List ℕ
byte_each f x y b = f x y b ∷ []

spread_length : (f : ℕ → ℕ → ℕ → ℕ) (x y : ℕ) (bs : List ℕ) → length (spread (byte_each f) x y bs) ≡ length bs
unfolding spread
spread_length f x y [] = refl
spread_length f x y (b ∷ bs) = ap suc (spread_length f (next_x x b) (next_y y b) bs)

-- equal drawings have the same byte at each spot of the board
abbrev is_spot : ℕ → ℕ → ℕ → Spot → Bool
is_spot x y b s = eqb s.x x && (eqb s.y y && eqb s.byte b)

spread_same : (f g : ℕ → ℕ → ℕ → ℕ) (u v c x y : ℕ) (bs : List ℕ) → spread (byte_each f) x y bs ≡ spread (byte_each g) x y bs
    → list_any (is_spot u v c) (spots x y bs) ≡ true → f u v c ≡ g u v c
unfolding spread spots
spread_same f g u v c x y [] e h = absurd (true≢false (sym h))
spread_same f g u v c x y (b ∷ bs) e h =
    let head : f x y b ≡ g x y b = cc in
    let tail : spread (byte_each f) (next_x x b) (next_y y b) bs ≡ spread (byte_each g) (next_x x b) (next_y y b) bs = cc in
    elim (cases_Bool (is_spot u v c (record { x = x; y = y; byte = b }))) [
      | inl t ↦ (
          let i = eqb-true x u (and_left _ _ t) in
          let j = eqb-true y v (and_left _ _ (and_right _ _ t)) in
          let k = eqb-true b c (and_right _ _ (and_right _ _ t)) in
          subst (λ (w : ℕ). f w v c ≡ g w v c) i (subst (λ (w : ℕ). f x w c ≡ g x w c) j (subst (λ (w : ℕ). f x y w ≡ g x y w) k head)))
      | inr t ↦ spread_same f g u v c (next_x x b) (next_y y b) bs tail
          (subst (λ (z : Bool). (z || list_any (is_spot u v c) (spots (next_x x b) (next_y y b) bs)) ≡ true) t h)
    ]

-- ---- the squares of the board
abbrev square_x : ℕ → ℕ
square_x k = 120 + 40 * (k % 8)

abbrev square_y : ℕ → ℕ
square_y k = 80 + 40 * (k / 8)

square_table : list_all (λ k. list_any (is_spot (square_x k) (square_y k) 65) (spots 40 40 chess_board)) (range_with_len 0 64) ≡ true
unfolding chess_board spots
square_table = refl

-- what computation shows about the names of squares
pub squares_named : list_all is_name chess_points ≡ true
unfolding chess_points
squares_named = refl

pub squares_apart : are_apart chess_points ≡ true
unfolding chess_points
squares_apart = refl

pub square_many : length chess_points ≡ 64
unfolding chess_points
square_many = length-map (range_with_len 0 64) square_name ∙ length-range_with_len 0 64

-- the byte of a drawing for a byte of the board
abbrev byte_of : List ℕ → ℕ → ℕ → ℕ → ℕ
byte_of text x y b = if is_slot b then square_byte (man_at text x y) (is_dark x y) else b

-- a man's letter, or 0
abbrev pub is_man : ℕ → Bool
is_man m = eqb m 0 || ltb 64 m

same_byte : (m n : ℕ) (dark : Bool) → is_man m ≡ true → is_man n ≡ true → square_byte m dark ≡ square_byte n dark → m ≡ n
same_byte m n true h k e = grind (arith, nat_tests)
same_byte m n false h k e = grind (arith, nat_tests)

-- positions with the same drawing have the same man on each square
pub same_men_on : (s t : List ℕ) (k : ℕ) → k < 64 → chess_drawing s ≡ chess_drawing t → is_man (man_on (97 + k % 8) (56 - k / 8) s) ≡ true
    → is_man (man_on (97 + k % 8) (56 - k / 8) t) ≡ true → man_on (97 + k % 8) (56 - k / 8) s ≡ man_on (97 + k % 8) (56 - k / 8) t
unfolding chess_drawing
same_men_on s t k l e h i =
    let same = spread_same (byte_of s) (byte_of t) (square_x k) (square_y k) 65 40 40 chess_board e
    (all_at (λ k. list_any (is_spot (square_x k) (square_y k) 65) (spots 40 40 chess_board)) (range_with_len 0 64) k square_table (contains_range 64 k l)) in
    let f : file_at (square_x k) ≡ 97 + k % 8 = omega arith in
    let r : rank_at (square_y k) ≡ 56 - k / 8 = omega arith in
    same_byte _ _ (is_dark (square_x k) (square_y k)) h i
    (subst (λ (a : ℕ). square_byte (man_on a (56 - k / 8) s) (is_dark (square_x k) (square_y k)) ≡ square_byte (man_on a (56 - k / 8) t) (is_dark (square_x k) (square_y k))) f
    (subst (λ (a : ℕ). square_byte (man_on (file_at (square_x k)) a s) (is_dark (square_x k) (square_y k)) ≡ square_byte (man_on (file_at (square_x k)) a t) (is_dark (square_x k) (square_y k))) r same))

pub board_fits : length chess_board ≤ DRAWING
unfolding chess_board
board_fits = omega arith

pub chess_fits : (text : List ℕ) → length (chess_drawing text) ≤ DRAWING
unfolding chess_drawing chess_board
chess_fits text = (let n = spread_length (byte_of text) 40 40 chess_board in omega (arith, n))

-- ---- squares by their number, eight times the row from the first rank up plus the file
abbrev pub turned : ℕ → ℕ
turned s = 8 * (7 - s / 8) + s % 8

pub turned_below : (s : ℕ) → s < 64 → turned s < 64
turned_below s l = omega (arith, l)

pub turned_file : (s : ℕ) → s < 64 → 97 + turned s % 8 ≡ 97 + s % 8
turned_file s l = omega (arith, l)

pub turned_rank : (s : ℕ) → s < 64 → 56 - turned s / 8 ≡ 49 + s / 8
turned_rank s l = omega (arith, l)

-- the man of a position's text on a square
abbrev pub man_of_text : List ℕ → ℕ → ℕ
man_of_text text s = man_on (97 + s % 8) (49 + s / 8) text

-- positions with the same drawing have the same man on each square, if their texts have letters only
pub same_on_board : (t u : List ℕ) → ((s : ℕ) → s < 64 → is_man (man_of_text t s) ≡ true) → ((s : ℕ) → s < 64 → is_man (man_of_text u s) ≡ true)
    → chess_drawing t ≡ chess_drawing u → (s : ℕ) → s < 64 → man_of_text t s ≡ man_of_text u s
same_on_board t u h i e s l =
    let k = turned s in
    let f : 97 + k % 8 ≡ 97 + s % 8 = turned_file s l in
    let r : 56 - k / 8 ≡ 49 + s / 8 = turned_rank s l in
    let on_t : man_on (97 + k % 8) (56 - k / 8) t ≡ man_of_text t s = ap₂ (λ (a b : ℕ). man_on a b t) f r in
    let on_u : man_on (97 + k % 8) (56 - k / 8) u ≡ man_of_text u s = ap₂ (λ (a b : ℕ). man_on a b u) f r in
    sym on_t ∙ same_men_on t u k (turned_below s l) e (ap is_man on_t ∙ h s l) (ap is_man on_u ∙ i s l) ∙ on_u

-- the name of a square is that of another only if both are the same
pub same_square : (a s : ℕ) → a < 64 → s < 64 → (eqb (97 + a % 8) (97 + s % 8) && eqb (49 + a / 8) (49 + s / 8)) ≡ eqb s a
same_square a s l h = elim (cases_Bool (eqb s a)) [
  | inl e ↦ (let i = eqb-true s a e in subst (λ (t : ℕ). (eqb (97 + t % 8) (97 + s % 8) && eqb (49 + t / 8) (49 + s / 8)) ≡ eqb s t) i (grind (arith, nat_tests)))
  | inr e ↦ grind (arith, nat_tests)
]

-- the name of a square is among those of the board
pub has_square : (s : ℕ) → s < 64 → Contains chess_points ((97 + s % 8) ∷ (49 + s / 8) ∷ [])
unfolding chess_points
has_square s l =
    let k = turned s in
    let e : square_name k ≡ (97 + s % 8) ∷ (49 + s / 8) ∷ [] = ap₂ (λ (a b : ℕ). a ∷ b ∷ []) (turned_file s l) (turned_rank s l) in
    subst (Contains (map square_name (range_with_len 0 64))) e (contains_map square_name (range_with_len 0 64) k (contains_range 64 k (turned_below s l)))

-- two squares with `-` between them
pub two_squares : (a c : ℕ) → a < 64 → c < 64 → IsPointWord chess_points (((97 + a % 8) ∷ (49 + a / 8) ∷ []) ++ 45 ∷ (97 + c % 8) ∷ (49 + c / 8) ∷ [])
two_squares a c l h = inr (_, _, has_square a l, has_square c h, refl)
