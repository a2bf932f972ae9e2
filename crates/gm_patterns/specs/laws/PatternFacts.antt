-- Patterns: lists of what fails a test, what it means that a board has a pattern, and boards on which one is laid.
use Rattle.std.specs.Prelude.{◌≡◌, ◌+◌, ◌∷◌, ◌++◌, Option, None, ◌-◌, ◌%◌, ◌^◌, ◌<◌, ◌&&◌, ◌||◌, if◌then◌else◌}
use Rattle.std.specs.List.{cons_option}
use Rattle.gm_pieces.specs.Common.{ℕ, Bool, true, not, List, [], length, refl, sym, ap, ◌∙◌, subst, arith, inl, inr, cases_Bool, Contains, contains_cases, contains_head, contains_later, filter, filter_map, filter_to, flat_map, min, false, eqb, eqb-true, map, get_or, cases_lt, bit_and, bit_or, bit_at, list_any, range_with_len, all_at, contains_range, range_below, has_cell, has_and, has_or, has_none, Cell, Empty, Mine, Theirs, cell_at, turned, permute, permute_get, permute_length, IsPermutationOf, any_at, any_from, cond-true, ext_get_or, length-map-range_with_len, zero-add}
use Rattle.gm_board.specs.laws.CellCounts.{one_if}
use Rattle.gm_patterns.specs.PatternTables.{failing, is_void, pattern_implies, outside, swap_pattern, lets_one, is_exact, is_step}
use Rattle.gm_board.specs.laws.Turned.{cell_turned}
use Rattle.std.proofs.lemmas.List.{length-map}
use Rattle.std.proofs.lemmas.Nat.Bits.{bit_at-lt, bit_at_ones_above, bit_at_xor, bit_at_and}
use Rattle.gm_board.specs.laws.Images.{image_bit}
use Rattle.gm_board.specs.laws.Lists.{all_from}
use Rattle.gm_board.specs.laws.Permutations.{below_at}
use Rattle.gm_patterns.specs.Patterns.{lets, fits, has_some, both, without, image_pattern, same_pattern}
use Rattle.gm_patterns.specs.PatternGames.{swap_by}
use Rattle.gm_patterns.specs.declared.pattern.Pattern.{Pattern}
use Rattle.std.proofs.lemmas.List.FromFn.{get_or-map-range_with_len}
use Rattle.gm_patterns.specs.Steps.{cells_in, only, laid}
use Rattle.gm_patterns.specs.declared.step.Step.{Step}

-- where nothing fails, each element passes
pub passes : {X : Type 0} (p : X → Bool) (xs : List X) (x : X) → failing p xs ≡ [] → Contains xs x → p x ≡ true
passes p xs x e c = elim (cases_Bool (p x)) [
  | inl t ↦ t
  | inr f ↦ absurd (
      let d = filter_to (λ (y : _). not (p y)) xs x c (ap not f) in
      let l = (subst (λ (ys : List _). Contains ys x) e d).1 in
      omega (arith, l))
]

-- lists that join to nothing are empty
pub both_nil : {X : Type 0} (xs ys : List X) → xs ++ ys ≡ [] → (xs ≡ []) × (ys ≡ [])
both_nil [] ys e = (refl, e)
both_nil (x ∷ xs) ys e = absurd (let z : ⊥ = cc in z)

-- where lists join to nothing, each of them is empty
pub none_in : {X Y : Type 0} (f : X → List Y) (xs : List X) (x : X) → flat_map f xs ≡ [] → Contains xs x → f x ≡ []
none_in f [] x e c = absurd (let l = c.1 in omega (arith, l))
none_in f (y ∷ ys) x e c =
    let h = both_nil (f y) (flat_map f ys) e in
    elim (contains_cases y ys x c) [
      | inl q ↦ ap f (sym q) ∙ h.0
      | inr d ↦ none_in f ys x h.1 d
    ]

-- if a function gives nothing for any element, nothing is listed
pub none_listed : {X Y : Type 0} (h : X → Option Y) (xs : List X) → ((x : X) → h x ≡ None) → filter_map h xs ≡ []
none_listed h [] e = refl
none_listed h (x ∷ xs) e = ap (λ (o : Option _). cons_option o (filter_map h xs)) (e x) ∙ none_listed h xs e

-- ---- counts
filter_count : (p : ℕ → Bool) (x : ℕ) (xs : List ℕ) → length (filter p (x ∷ xs)) ≡ one_if (p x) + length (filter p xs)
filter_count p x xs = elim (cases_Bool (p x)) [ inl e ↦ rw e (omega arith) | inr e ↦ rw e (omega arith) ]

-- where tests balance on each element, so do the numbers of elements that pass them
pub balance : (p q r s : ℕ → Bool) (xs : List ℕ) → ((k : ℕ) → Contains xs k → one_if (p k) + one_if (q k) ≡ one_if (r k) + one_if (s k))
    → length (filter p xs) + length (filter q xs) ≡ length (filter r xs) + length (filter s xs)
balance p q r s [] h = refl
balance p q r s (x ∷ xs) h =
    let here = h x (contains_head x xs) in
    let rest = balance p q r s xs (λ k c. h k (contains_later x xs k c)) in
    let a = filter_count p x xs in
    let b = filter_count q x xs in
    let c = filter_count r x xs in
    let d = filter_count s x xs in
    omega (arith, here, rest, a, b, c, d)

-- ---- boards that have a pattern
-- a pattern lets lie on each cell what lies there
pub fits_at : (p : Pattern) (b : List Cell) → fits p b ≡ true → (k : ℕ) → k < length b → lets p k (cell_at b k) ≡ true
unfolding fits
fits_at p b e k l = all_at (λ (k : ℕ). lets p k (cell_at b k)) (range_with_len 0 (length b)) k e (contains_range (length b) k l)

pub fits_from : (p : Pattern) (b : List Cell) → ((k : ℕ) → k < length b → lets p k (cell_at b k) ≡ true) → fits p b ≡ true
unfolding fits
fits_from p b h = all_from (λ (k : ℕ). lets p k (cell_at b k)) (range_with_len 0 (length b)) (λ k c. h k (range_below (length b) k c))

-- ---- patterns made of patterns
-- both patterns let what their union lets
pub lets_both : (p q : Pattern) (k : ℕ) (c : Cell) → lets (both p q) k c ≡ (lets p k c && lets q k c)
lets_both p q k c = grind (arith, has_or)

without_bits : (x y : ℕ) → x < 2 → y < 2 → eqb ((x + min x y) % 2) 1 ≡ (eqb x 1 && not (eqb y 1))
without_bits x y l m = grind arith

-- the cells of a mask that another does not have
pub has_without : (m c k : ℕ) → has_cell (without m c) k ≡ (has_cell m k && not (has_cell c k))
has_without m c k =
    ap (λ (v : ℕ). eqb v 1) (bit_at_xor m (bit_and m c) k ∙ ap (λ (v : ℕ). (bit_at m k + v) % 2) (bit_at_and m c k))
    ∙ without_bits (bit_at m k) (bit_at c k) (bit_at-lt m k) (bit_at-lt c k)

-- what a pattern says of other cells lets anything lie on these cells
pub lets_outside : (c : ℕ) (p : Pattern) (k : ℕ) (x : Cell) → lets (outside c p) k x ≡ (has_cell c k || lets p k x)
lets_outside c p k x = grind (arith, has_without)

-- a pattern that says nothing of a cell lets anything lie on it
pub lets_all : (p : Pattern) (k : ℕ) (c : Cell) → has_cell (bit_or p.not_empty (bit_or p.not_mine p.not_theirs)) k ≡ false → lets p k c ≡ true
lets_all p k c e = grind (arith, has_or)

-- ---- patterns that no board has
missing : (p : Pattern) (k : ℕ) (c : Cell) → lets p k c ≡ true → (has_cell p.not_empty k && (has_cell p.not_mine k && has_cell p.not_theirs k)) ≡ false
missing p k c e = grind arith

-- a board with a pattern shows that the pattern is not void
pub not_void : (n : ℕ) (p : Pattern) (b : List Cell) → length b ≡ n → fits p b ≡ true → is_void n p ≡ true → ⊥
not_void n p b e f v =
    let none = has_none (bit_and (bit_and p.not_empty (bit_and p.not_mine p.not_theirs)) (2 ^ n - 1)) (λ k. elim (cases_lt k n) [
      | inl l ↦ grind (arith, has_and, missing p k (cell_at b k) (fits_at p b f k (omega (arith, e, l))))
      | inr l ↦ grind (arith, has_and, bit_at_ones_above n k l)
    ]) in
    grind (arith, none, v)

-- ---- patterns that follow
lets_implied : (p q : Pattern) (k : ℕ) (c : Cell) → pattern_implies p q ≡ true → lets p k c ≡ true → lets q k c ≡ true
lets_implied p q k c i e = grind (arith, has_and, eqb-true)

-- a board that has a pattern has each pattern that it implies
pub fits_implied : (p q : Pattern) (b : List Cell) → pattern_implies p q ≡ true → fits p b ≡ true → fits q b ≡ true
fits_implied p q b i e = fits_from q b (λ k l. lets_implied p q k (cell_at b k) i (fits_at p b e k l))

-- so if some pattern of a list is implied, the board has one of the list
pub some_implied : (ps : List Pattern) (p : Pattern) (b : List Cell) → list_any (pattern_implies p) ps ≡ true → fits p b ≡ true → has_some ps b ≡ true
some_implied ps p b i e =
    let x = any_at (pattern_implies p) ps i in
    any_from (λ (q : Pattern). fits q b) ps x.0 x.1 (fits_implied p x.0 b x.2 e)

-- ---- images
pub same_pattern_true : (p q : Pattern) → same_pattern p q ≡ true → p ≡ q
same_pattern_true p q e = grind (arith, eqb-true)

-- what the image of a pattern lets lie on a cell is what the pattern lets lie where it comes from
pub lets_image : (g : List ℕ) (p : Pattern) (k : ℕ) (c : Cell) → k < length g → lets (image_pattern g p) k c ≡ lets p (get_or g k 0) c
lets_image g p k c l = grind (arith, image_bit)

-- the image of a board has the image of each of its patterns
pub fits_image : (n : ℕ) (g : List ℕ) (p : Pattern) (b : List Cell) → IsPermutationOf n g → length b ≡ n → fits p b ≡ true
    → fits (image_pattern g p) (permute Empty g b) ≡ true
fits_image n g p b h e f =
    fits_from (image_pattern g p) (permute Empty g b) (λ k l.
    let lg : k < length g = subst (λ (m : ℕ). k < m) (permute_length Empty g b) l in
    let ln : k < n = subst (λ (m : ℕ). k < m) h.cells lg in
    let j = get_or g k 0 in
    let lj : j < length b = subst (λ (m : ℕ). j < m) (sym e) (below_at n g h k ln) in
    lets_image g p k (cell_at (permute Empty g b) k) lg ∙ ap (lets p j) (permute_get Empty g b k lg) ∙ fits_at p b f j lj)

-- ---- the sides exchanged
lets_swapped : (p : Pattern) (k : ℕ) (c : Cell) → lets (swap_pattern true p) k (turned c) ≡ lets p k c
lets_swapped p k Empty = refl
lets_swapped p k Mine = refl
lets_swapped p k Theirs = refl

-- a board with the sides exchanged has a pattern with the sides exchanged
pub fits_swapped : (s : Bool) (p : Pattern) (b : List Cell) → fits p b ≡ true → fits (swap_pattern s p) (swap_by s b) ≡ true
fits_swapped true p b f = fits_from (swap_pattern true p) (map turned b) (λ k l.
    ap (lets (swap_pattern true p) k) (cell_turned b k) ∙ lets_swapped p k (cell_at b k)
    ∙ fits_at p b f k (subst (λ (m : ℕ). k < m) (length-map b turned) l))
fits_swapped false p b f = f

-- ---- cells
pub laid_length : (c : ℕ) (p : Pattern) (b : List Cell) → length (laid c p b) ≡ length b
unfolding laid
laid_length c p b = length-map-range_with_len (λ (k : ℕ). if has_cell c k then only p k else cell_at b k) 0 (length b)

-- on the cells of the mask lies what the pattern says, and on others what lay there
pub laid_cell : (c : ℕ) (p : Pattern) (b : List Cell) (k : ℕ) → k < length b → cell_at (laid c p b) k ≡ (if has_cell c k then only p k else cell_at b k)
unfolding laid
laid_cell c p b k l = get_or-map-range_with_len (λ (k : ℕ). if has_cell c k then only p k else cell_at b k) 0 (length b) k k Empty l (zero-add k)

-- ---- patterns that let only one thing lie on each cell
-- what is said of the cells below n
pub record IsExact (n c : ℕ) (p : Pattern) : Type 0 where
  pub here : (k : ℕ) → k < n → has_cell c k ≡ true → lets p k (only p k) ≡ true
  pub one : (k : ℕ) (x : Cell) → k < n → has_cell c k ≡ true → lets p k x ≡ true → only p k ≡ x

let_here : (p : Pattern) (k : ℕ) → lets_one p k ≡ true → lets p k (only p k) ≡ true
let_here p k e = grind arith

let_alone : (p : Pattern) (k : ℕ) (x : Cell) → lets_one p k ≡ true → lets p k x ≡ true → only p k ≡ x
let_alone p k x e f = grind arith

-- what the test says
pub exact : (n c : ℕ) (p : Pattern) → is_exact n c p ≡ true → IsExact n c p
exact n c p e =
    let one : (k : ℕ) → k < n → has_cell c k ≡ true → lets_one p k ≡ true = λ k l h.
    sym (cond-true _ _ _ h) ∙ all_at (λ (k : ℕ). if has_cell c k then lets_one p k else true) (range_with_len 0 n) k e (contains_range n k l) in
    record {
      here = λ k l h. let_here p k (one k l h);
      one = λ k x l h f. let_alone p k x (one k l h) f;
    }

-- ---- steps made and taken back
-- a pattern laid over a board that has another, and this one laid over it: the board is as it was
pub laid_back : (n c : ℕ) (p q : Pattern) (b : List Cell) → IsExact n c p → length b ≡ n → fits p b ≡ true → laid c p (laid c q b) ≡ b
laid_back n c p q b h e f =
    let lq = laid_length c q b in
    let lp = laid_length c p (laid c q b) in
    ext_get_or Empty (laid c p (laid c q b)) b (lp ∙ lq)
    (λ k l.
    let lb : k < length b = omega (arith, l, lp, lq) in
    grind (arith, laid_cell c p (laid c q b) k (omega (arith, l, lp)), laid_cell c q b k lb, h.one k (cell_at b k) (omega (arith, e, lb)), fits_at p b f k lb))

-- a board on which a pattern is laid has it, if it is laid on all cells of which it says something
pub laid_fits : (n : ℕ) (p : Pattern) (b : List Cell) → IsExact n (cells_in p) p → length b ≡ n → fits p (laid (cells_in p) p b) ≡ true
laid_fits n p b h e =
    let c = cells_in p in
    let long = laid_length c p b in
    fits_from p (laid c p b) (λ k l.
    let lb : k < length b = omega (arith, l, long) in
    grind (arith, laid_cell c p b k lb, h.here k (omega (arith, e, lb)), lets_all p k (cell_at b k)))

-- ---- images
-- the image of a pattern says something of a cell where the pattern says something of the cell that comes there
image_cells : (g : List ℕ) (p : Pattern) (k : ℕ) → k < length g → has_cell (cells_in (image_pattern g p)) k ≡ has_cell (cells_in p) (get_or g k 0)
image_cells g p k l = grind (arith, has_or, image_bit g p.not_empty k l, image_bit g p.not_mine k l, image_bit g p.not_theirs k l)

image_only : (g : List ℕ) (p : Pattern) (k : ℕ) → k < length g → only (image_pattern g p) k ≡ only p (get_or g k 0)
image_only g p k l = grind (arith, lets_image g p k Mine l, lets_image g p k Theirs l)

-- the image of a board with a pattern laid on it
pub laid_image : (n : ℕ) (g : List ℕ) (p : Pattern) (b : List Cell) → IsPermutationOf n g → length b ≡ n
    → laid (cells_in (image_pattern g p)) (image_pattern g p) (permute Empty g b) ≡ permute Empty g (laid (cells_in p) p b)
laid_image n g p b h e =
    let i = image_pattern g p in
    let image = permute Empty g b in
    let long = permute_length Empty g b in
    let li = laid_length (cells_in i) i image in
    ext_get_or Empty _ _ (li ∙ long ∙ sym (permute_length Empty g (laid (cells_in p) p b)))
    (λ k l.
    let lg : k < length g = omega (arith, l, li, long) in
    let ln : k < n = subst (λ (m : ℕ). k < m) h.cells lg in
    let j = get_or g k 0 in
    let lj : j < length b = subst (λ (m : ℕ). j < m) (sym e) (below_at n g h k ln) in
    grind (
      arith,
      laid_cell (cells_in i) i image k (omega (arith, l, li)),
      laid_cell (cells_in p) p b j lj,
      image_cells g p k lg,
      image_only g p k lg,
      permute_get Empty g b k lg,
      permute_get Empty g (laid (cells_in p) p b) k lg,
    ))

-- ---- steps
-- what the test of a step says
pub record IsRightStep (n : ℕ) (s : Step) : Type 0 where
  pub within : cells_in s.after < 2 ^ n
  pub before : IsExact n (cells_in s.after) s.before
  pub after : IsExact n (cells_in s.after) s.after
  pub from : s.from < n
  pub to : s.to < n

pub right_step : (n : ℕ) (s : Step) → is_step n s ≡ true → IsRightStep n s
right_step n s e = record {
  within = grind (arith, e);
  before = exact n (cells_in s.after) s.before (grind (arith, e));
  after = exact n (cells_in s.after) s.after (grind (arith, e));
  from = grind (arith, e);
  to = grind (arith, e);
}
