-- The steps of packing the opponent's pieces on the cells without the mover's, and of spreading them again.
use Rattle.gm_board.proofs.Lower.{◌≡◌, ℕ, suc, ◌+◌, ◌-◌, ◌/◌, ◌%◌, ◌^◌, ◌<◌, ◌≤◌, Bool, true, false, List, [], ◌∷◌, length, refl, sym, ap, ap₂, ◌∙◌, subst, arith, bit_and, count_ones, bit_at, trailing_zeros, w32, pow_mono, shr_split, members, members_le, has_cell, tests_of, mask_of, tests_none, tests_more, tests_length, mask_below, members_small, their_bits, cells_of}
use Rattle.std.proofs.Common.{add-one, lt_of_le_of_lt, ◌*◌}
use Rattle.std.proofs.Math.Nat.{two-pow-succ, mod-eq_of_lt, mul-add, add-mul, div-eq_of_lt}
use Rattle.std.proofs.lemmas.Nat.{shr-shr, div-mul-add}
use Rattle.std.proofs.lemmas.Nat.Bits.{bit_at-lt}
use Rattle.gm_board.specs.declared.cell.Cell.{Cell}
use Rattle.gm_board.specs.laws.Masks.{mask_cons, weight_bit, members_skips, members_add, steady}
use Rattle.gm_board.specs.laws.MaskChanges.{no_bit}
use Rattle.gm_board.specs.Arrangements.{their_cell, merge}
use Rattle.gm_board.specs.Pieces.{cell_by, their_tests, spread_mask}
use Rattle.gm_board.specs.laws.NextCells.{cell_below, cell_one, cell_none}
use Rattle.gm_board.specs.laws.Pieces.{cells_none, cells_more, free_length, apart_below}
use Rattle.gm_board.proofs.LowestCells.{IsRest, rest_whole, lowest, nothing_left}

-- twice as much of the higher digits
twice : (a n : ℕ) → a * 2 ^ (n + 1) ≡ a * 2 ^ n + a * 2 ^ n
twice a n =
    ap (λ (k : ℕ). a * 2 ^ k) (add-one n)
    ∙ ap (λ (v : ℕ). a * v) (two-pow-succ n)
    ∙ mul-add a (2 ^ n) (2 ^ n)

-- the digits of a number from n on, moved to k: the first and the others
moved : (t n k : ℕ) → t / 2 ^ n * 2 ^ k ≡ bit_at t n * 2 ^ k + t / 2 ^ (n + 1) * 2 ^ (k + 1)
moved t n k =
    let a = t / 2 ^ (n + 1) in
    let q : t / 2 ^ n ≡ bit_at t n + (a + a) = omega (arith, shr-shr t n 1) in
    ap (λ (v : ℕ). v * 2 ^ k) q
    ∙ add-mul (bit_at t n) (a + a) (2 ^ k)
    ∙ ap (λ (v : ℕ). bit_at t n * 2 ^ k + v) (add-mul a a (2 ^ k) ∙ sym (twice a k))

-- what doesn't change from n to c
unchanged : (f : ℕ → ℕ) (n c : ℕ) → n ≤ c → ((i : ℕ) → i < c - n → f (n + i + 1) ≡ f (n + i)) → f c ≡ f n
unchanged f n c l h = ap f (let e : c ≡ n + (c - n) = omega arith in e) ∙ steady f n (c - n) (λ i k. ap f (sym (add-one (n + i))) ∙ h i k)

-- ---- the cells below n without the mover's
-- their number
abbrev pub free_below : ℕ → ℕ → ℕ
free_below mine n = n - members (tests_of n mine)

next_tests : (mine n : ℕ) (b : Bool) → has_cell mine n ≡ b → tests_of (n + 1) mine ≡ b ∷ tests_of n mine
next_tests mine n b e = ap (λ (j : ℕ). tests_of j mine) (add-one n) ∙ tests_more n mine ∙ ap (λ (x : Bool). x ∷ tests_of n mine) e

free_same : (mine n : ℕ) → has_cell mine n ≡ true → free_below mine (n + 1) ≡ free_below mine n
free_same mine n e = let q = ap members (next_tests mine n true e) in omega (arith, q)

free_more : (mine n : ℕ) → has_cell mine n ≡ false → free_below mine (n + 1) ≡ free_below mine n + 1
free_more mine n e = let q = ap members (next_tests mine n false e) in omega (arith, q, members_le (tests_of n mine), tests_length n mine)

-- ---- packing
-- the opponent's pieces below n packed, and those from there on behind them
abbrev pub packed_to : ℕ → ℕ → ℕ → ℕ
packed_to mine theirs n = mask_of (their_bits (cells_of n mine theirs)) + theirs / 2 ^ n * 2 ^ free_below mine n

packed_none : (mine theirs : ℕ) → packed_to mine theirs 0 ≡ theirs
packed_none mine theirs =
    let m : mask_of (their_bits (cells_of 0 mine theirs)) ≡ 0 = ap (λ (cs : List Cell). mask_of (their_bits cs)) (cells_none mine theirs) in
    let k : theirs / 1 * 2 ^ free_below mine 0 ≡ theirs / 1 * 1 = ap (λ (j : ℕ). theirs / 1 * 2 ^ j) (let z : free_below mine 0 ≡ 0 = omega arith in z) in
    omega (arith, m, k)

bits_mine : (a b : Bool) (cs : List Cell) → a ≡ true → their_bits (cell_by a b ∷ cs) ≡ their_bits cs
bits_mine true b cs e = refl
bits_mine false b cs e = cc

bits_free : (a b : Bool) (cs : List Cell) → a ≡ false → their_bits (cell_by a b ∷ cs) ≡ b ∷ their_bits cs
bits_free true b cs e = cc
bits_free false true cs e = refl
bits_free false false cs e = refl

next_bits : (mine theirs n : ℕ) → their_bits (cells_of (n + 1) mine theirs) ≡ their_bits (cell_by (has_cell mine n) (has_cell theirs n) ∷ cells_of n mine theirs)
next_bits mine theirs n = ap (λ (k : ℕ). their_bits (cells_of k mine theirs)) (add-one n) ∙ ap their_bits (cells_more n mine theirs)

-- a cell without a piece of the mover's
packed_free : (mine theirs n : ℕ) → has_cell mine n ≡ false → packed_to mine theirs (n + 1) ≡ packed_to mine theirs n
packed_free mine theirs n e =
    let bs = their_bits (cells_of n mine theirs) in
    let k = free_below mine n in
    let m : mask_of (their_bits (cells_of (n + 1) mine theirs)) ≡ bit_at theirs n * 2 ^ k + mask_of bs =
    ap mask_of (next_bits mine theirs n ∙ bits_free (has_cell mine n) (has_cell theirs n) (cells_of n mine theirs) e)
    ∙ mask_cons (has_cell theirs n) bs
    ∙ ap₂ (λ (x j : ℕ). x * 2 ^ j + mask_of bs) (weight_bit theirs n) (free_length n mine theirs) in
    let f = ap (λ (j : ℕ). theirs / 2 ^ (n + 1) * 2 ^ j) (free_more mine n e) in
    omega (arith, m, f, moved theirs n k)

-- a cell of the mover's
packed_own : (mine theirs n : ℕ) → has_cell mine n ≡ true → has_cell theirs n ≡ false
    → packed_to mine theirs (n + 1) + theirs / 2 ^ n / 2 * 2 ^ free_below mine n ≡ packed_to mine theirs n
packed_own mine theirs n e f =
    let k = free_below mine n in
    let m = ap mask_of (next_bits mine theirs n ∙ bits_mine (has_cell mine n) (has_cell theirs n) (cells_of n mine theirs) e) in
    let none : bit_at theirs n * 2 ^ k ≡ 0 * 2 ^ k = ap (λ (v : ℕ). v * 2 ^ k) (no_bit (bit_at theirs n) (bit_at-lt theirs n) f) in
    let same = ap (λ (j : ℕ). theirs / 2 ^ (n + 1) * 2 ^ j) (free_same mine n e) in
    let down = ap (λ (v : ℕ). v * 2 ^ k) (shr-shr theirs n 1) in
    omega (arith, m, none, same, down, twice (theirs / 2 ^ (n + 1)) k, moved theirs n k)

packed_all : (cells mine theirs : ℕ) → theirs < 2 ^ cells → packed_to mine theirs cells ≡ mask_of (their_bits (cells_of cells mine theirs))
packed_all cells mine theirs l =
    let z : theirs / 2 ^ cells * 2 ^ free_below mine cells ≡ 0 * 2 ^ free_below mine cells = ap (λ (v : ℕ). v * 2 ^ free_below mine cells) (div-eq_of_lt l) in
    omega (arith, z)

-- what holds before each of the mover's cells: those below some `next` are done, of which the mover has `passed`
pub record IsPacking (cells mine theirs rest passed packed : ℕ) : Type 0 where
  pub next : ℕ
  pub within : next ≤ cells
  pub is_rest : IsRest mine next rest
  pub is_passed : passed ≡ members (tests_of next mine)
  pub is_packed : packed ≡ packed_to mine theirs next

-- what a turn does at a cell
pub record IsPackTurn (cells mine theirs rest passed packed cell : ℕ) : Type 0 where
  pub shift : cell < cells
  pub passed_le : passed ≤ cell
  pub whole : theirs / 2 ^ cell / 2 * 2 ^ (cell - passed) % 2 ^ 32 ≡ theirs / 2 ^ cell / 2 * 2 ^ (cell - passed)
  pub fits : theirs / 2 ^ cell / 2 * 2 ^ (cell - passed) ≤ packed
  pub after : IsPacking cells mine theirs (bit_and rest (rest - 1)) (passed + 1) (packed - theirs / 2 ^ cell / 2 * 2 ^ (cell - passed))

-- nothing is packed yet
pub packing : (cells mine theirs : ℕ) → IsPacking cells mine theirs mine 0 theirs
packing cells mine theirs = record {
  next = 0;
  within = omega arith;
  is_rest = rest_whole mine;
  is_passed = sym (ap members (tests_none mine));
  is_packed = sym (packed_none mine theirs);
}

-- a turn
pub pack_turn : (cells mine theirs rest passed packed : ℕ) → IsPacking cells mine theirs rest passed packed → mine < 2 ^ cells → bit_and mine theirs ≡ 0
    → packed < 2 ^ 32 → rest < 2 ^ 32 → 0 < rest → IsPackTurn cells mine theirs rest passed packed (trailing_zeros w32 rest)
pack_turn cells mine theirs rest passed packed h f a j g p =
    let c = trailing_zeros w32 rest in
    let n = h.next in
    let z = lowest mine n rest h.is_rest g p in
    let own : has_cell mine c ≡ true = cell_one mine c z.has in
    let below : c < cells = cell_below mine cells c f own in
    let none : has_cell theirs c ≡ false = apart_below (c + 1) mine theirs a c (omega arith) own in
    let at : n + (c - n) ≡ c = omega (arith, z.from) in
    let count : members (tests_of c mine) ≡ passed = ap (λ (k : ℕ). members (tests_of k mine)) (sym at) ∙ members_skips n (c - n) mine z.none ∙ sym h.is_passed in
    let to : packed_to mine theirs c ≡ packed = unchanged (packed_to mine theirs) n c z.from (λ i l. packed_free mine theirs (n + i) (cell_none mine (n + i)
    (z.none i l))) ∙ sym h.is_packed in
    let down : theirs / 2 ^ c / 2 * 2 ^ (c - passed) ≡ theirs / 2 ^ c / 2 * 2 ^ free_below mine c = ap (λ (k : ℕ). theirs / 2 ^ c / 2 * 2 ^ (c - k)) (sym count) in
    let d = packed_own mine theirs c own none in
    let fits : theirs / 2 ^ c / 2 * 2 ^ (c - passed) ≤ packed = omega (arith, down, d, to) in
    record {
      shift = below;
      passed_le = omega (arith, count, members_le (tests_of c mine), tests_length c mine);
      whole = mod-eq_of_lt (lt_of_le_of_lt fits j);
      fits = fits;
      after = record {
        next = c + 1;
        within = omega (arith, below);
        is_rest = z.left;
        is_passed = sym (ap (λ (k : ℕ). members (tests_of k mine)) (add-one c) ∙ members_add c mine z.has ∙
            (let e : suc (members (tests_of c mine)) ≡ passed + 1 = omega (arith, count) in e));
        is_packed = omega (arith, down, d, to);
      };
    }

-- all is packed
pub pack_done : (cells mine theirs rest passed packed : ℕ) → IsPacking cells mine theirs rest passed packed → theirs < 2 ^ cells → rest ≡ 0 → packed ≡
    mask_of (their_bits (cells_of cells mine theirs))
pack_done cells mine theirs rest passed packed h l e =
    let n = h.next in
    h.is_packed
    ∙ sym (unchanged (packed_to mine theirs) n cells h.within (λ i k. packed_free mine theirs (n + i) (cell_none mine (n + i)
    (nothing_left mine n rest (n + i) h.is_rest e (omega arith)))))
    ∙ packed_all cells mine theirs l

-- ---- spreading
merge_length : (ms ts : List Bool) → length (their_tests (merge ms ts)) ≡ length ms
merge_length [] ts = refl
merge_length (true ∷ ms) ts = ap suc (merge_length ms ts)
merge_length (false ∷ ms) [] = ap suc (merge_length ms [])
merge_length (false ∷ ms) (true ∷ ts) = ap suc (merge_length ms ts)
merge_length (false ∷ ms) (false ∷ ts) = ap suc (merge_length ms ts)

tests_cell : (b : Bool) (cs : List Cell) → their_tests (their_cell b ∷ cs) ≡ b ∷ their_tests cs
tests_cell true cs = refl
tests_cell false cs = refl

-- what is spread fits the cells
pub spread_below : (n mine packed : ℕ) → spread_mask n mine packed < 2 ^ n
unfolding spread_mask
spread_below n mine packed =
    let ms = tests_of n mine in
    let ts = their_tests (merge ms (tests_of (n - members ms) packed)) in
    subst (λ (k : ℕ). mask_of ts < 2 ^ k) (merge_length ms (tests_of (n - members ms) packed) ∙ tests_length n mine) (mask_below ts)

mask_same : (mine packed n : ℕ) → has_cell mine n ≡ true → spread_mask (n + 1) mine packed ≡ spread_mask n mine packed
unfolding spread_mask
mask_same mine packed n e = ap₂ (λ (bs : List Bool) (k : ℕ). mask_of (their_tests (merge bs (tests_of k packed)))) (next_tests mine n true e) (free_same mine n e)

mask_more : (mine packed n : ℕ) → has_cell mine n ≡ false → spread_mask (n + 1) mine packed ≡ bit_at packed (free_below mine n) * 2 ^ n + spread_mask n mine
    packed
unfolding spread_mask
mask_more mine packed n e =
    let ms = tests_of n mine in
    let k = free_below mine n in
    let cs = merge ms (tests_of k packed) in
    ap₂ (λ (bs : List Bool) (j : ℕ). mask_of (their_tests (merge bs (tests_of j packed)))) (next_tests mine n false e) (free_more mine n e ∙ add-one k)
    ∙ ap (λ (us : List Bool). mask_of (their_tests (merge (false ∷ ms) us))) (tests_more k packed)
    ∙ ap mask_of (tests_cell (has_cell packed k) cs)
    ∙ mask_cons (has_cell packed k) (their_tests cs)
    ∙ ap₂ (λ (x j : ℕ). x * 2 ^ j + mask_of (their_tests cs)) (weight_bit packed k) (merge_length ms (tests_of k packed) ∙ tests_length n mine)

-- the pieces on the cells below n spread, and those from there on as they stand in the packed mask
abbrev pub spread_to : ℕ → ℕ → ℕ → ℕ
spread_to mine packed n = spread_mask n mine packed + packed / 2 ^ free_below mine n * 2 ^ n

spread_none : (mine packed : ℕ) → spread_to mine packed 0 ≡ packed
spread_none mine packed =
    let k : packed / 2 ^ free_below mine 0 ≡ packed / 1 = ap (λ (j : ℕ). packed / 2 ^ j) (let z : free_below mine 0 ≡ 0 = omega arith in z) in
    omega (arith, spread_below 0 mine packed, k)

-- a cell without a piece of the mover's
spread_free : (mine packed n : ℕ) → has_cell mine n ≡ false → spread_to mine packed (n + 1) ≡ spread_to mine packed n
spread_free mine packed n e =
    let f = ap (λ (j : ℕ). packed / 2 ^ j * 2 ^ (n + 1)) (free_more mine n e) in
    omega (arith, mask_more mine packed n e, f, moved packed (free_below mine n) n)

-- a cell of the mover's
spread_own : (mine packed n : ℕ) → has_cell mine n ≡ true → spread_to mine packed n + spread_to mine packed n / 2 ^ n * 2 ^ n ≡ spread_to mine packed (n + 1)
spread_own mine packed n e =
    let q = packed / 2 ^ free_below mine n in
    let same = ap (λ (j : ℕ). packed / 2 ^ j * 2 ^ (n + 1)) (free_same mine n e) in
    let up : spread_to mine packed n / 2 ^ n ≡ q = ap (λ (v : ℕ). v / 2 ^ n) (let z : spread_to mine packed n ≡ q * 2 ^ n + spread_mask n mine packed = omega
    arith in z) ∙ div-mul-add q (2 ^ n) (spread_mask n mine packed) (spread_below n mine packed) in
    let part = ap (λ (v : ℕ). v * 2 ^ n) up in
    omega (arith, mask_same mine packed n e, same, part, twice q n)

spread_all : (cells mine packed : ℕ) → mine < 2 ^ cells → packed < 2 ^ (cells - count_ones mine) → spread_to mine packed cells ≡ spread_mask cells mine packed
spread_all cells mine packed f g =
    let k : packed / 2 ^ free_below mine cells ≡ 0 = ap (λ (v : ℕ). packed / 2 ^ (cells - v)) (members_small cells mine f) ∙ div-eq_of_lt g in
    let z : packed / 2 ^ free_below mine cells * 2 ^ cells ≡ 0 * 2 ^ cells = ap (λ (v : ℕ). v * 2 ^ cells) k in
    omega (arith, z)

-- what holds before each of the mover's cells: those below some `next` are done
pub record IsSpreading (cells mine packed rest theirs : ℕ) : Type 0 where
  pub next : ℕ
  pub within : next ≤ cells
  pub fits : theirs < 2 ^ (32 + next)
  pub is_rest : IsRest mine next rest
  pub is_theirs : theirs ≡ spread_to mine packed next

-- what a turn does at a cell
pub record IsSpreadTurn (cells mine packed rest theirs cell : ℕ) : Type 0 where
  pub shift : cell < cells
  pub whole : theirs / 2 ^ cell * 2 ^ cell % 2 ^ 64 ≡ theirs / 2 ^ cell * 2 ^ cell
  pub fits : theirs + theirs / 2 ^ cell * 2 ^ cell < 2 ^ 64
  pub after : IsSpreading cells mine packed (bit_and rest (rest - 1)) (theirs + theirs / 2 ^ cell * 2 ^ cell)

-- nothing is spread yet
pub spreading : (cells mine packed : ℕ) → packed < 2 ^ 32 → IsSpreading cells mine packed mine packed
spreading cells mine packed l = record {
  next = 0;
  within = omega arith;
  fits = l;
  is_rest = rest_whole mine;
  is_theirs = sym (spread_none mine packed);
}

-- a turn
pub spread_turn : (cells mine packed rest theirs : ℕ) → IsSpreading cells mine packed rest theirs → cells ≤ 32 → mine < 2 ^ cells
    → rest < 2 ^ 32 → 0 < rest → IsSpreadTurn cells mine packed rest theirs (trailing_zeros w32 rest)
spread_turn cells mine packed rest theirs h w f g p =
    let c = trailing_zeros w32 rest in
    let n = h.next in
    let z = lowest mine n rest h.is_rest g p in
    let own : has_cell mine c ≡ true = cell_one mine c z.has in
    let below : c < cells = cell_below mine cells c f own in
    let to : spread_to mine packed c ≡ theirs = unchanged (spread_to mine packed) n c z.from (λ i l. spread_free mine packed (n + i) (cell_none mine (n + i)
    (z.none i l))) ∙ sym h.is_theirs in
    let up = theirs / 2 ^ c * 2 ^ c in
    let part : up ≤ theirs = omega (arith, shr_split theirs c) in
    let e : 2 ^ (32 + (c + 1)) ≡ 2 ^ (32 + c) + 2 ^ (32 + c) = ap (λ (k : ℕ). 2 ^ k) (let q : 32 + (c + 1) ≡ suc (32 + c) = omega arith in q) ∙ two-pow-succ
    (32 + c) in
    let b : 2 ^ (32 + n) ≤ 2 ^ (32 + c) = pow_mono (let q : 32 + n ≤ 32 + c = omega (arith, z.from) in q) in
    let d : 2 ^ (32 + (c + 1)) ≤ 2 ^ 64 = pow_mono (let q : 32 + (c + 1) ≤ 64 = omega (arith, below, w) in q) in
    let twofold : theirs + up < 2 ^ (32 + (c + 1)) = omega (arith, part, h.fits, e, b) in
    record {
      shift = below;
      whole = mod-eq_of_lt (let q : up < 2 ^ 64 = omega (arith, part, twofold, d) in q);
      fits = omega (arith, twofold, d);
      after = record {
        next = c + 1;
        within = omega (arith, below);
        fits = twofold;
        is_rest = z.left;
        is_theirs = ap (λ (v : ℕ). v + v / 2 ^ c * 2 ^ c) (sym to) ∙ spread_own mine packed c own;
      };
    }

-- all is spread
pub spread_done : (cells mine packed rest theirs : ℕ) → IsSpreading cells mine packed rest theirs → mine < 2 ^ cells → packed < 2 ^
    (cells - count_ones mine) → rest ≡ 0 → theirs ≡ spread_mask cells mine packed
spread_done cells mine packed rest theirs h f g e =
    let n = h.next in
    h.is_theirs
    ∙ sym (unchanged (spread_to mine packed) n cells h.within (λ i k. spread_free mine packed (n + i) (cell_none mine (n + i)
    (nothing_left mine n rest (n + i) h.is_rest e (omega arith)))))
    ∙ spread_all cells mine packed f g
