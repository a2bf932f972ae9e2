-- The pairs into a tile, counted among all pairs of some notes, and read from a list of pieces.
use Rattle.gm_frontier.proofs.Lower.{◌≡◌, ◌≢◌, ℕ, suc, ◌+◌, ◌/◌, ◌<◌, ◌≤◌, ◌^◌, ◌↔◌, inl, inr, Bool, true, false, if◌then◌else◌, min, List, [], ◌∷◌, ◌++◌, map, filter, length, get_or, refl, sym, ap, subst, ◌∙◌, arith, Contains, div_ceil, length-append, nat_tests, TIER_SIZE, Rules, IsGame, NoteData, LevelData, IsLevel, is_within, pairs_of_note, pairs_of, piece_of, tile_count, tile_start, tile_end, number_into, AreCounts}
use Rattle.std.proofs.Math.Nat.{lt-div-mul-add}
use Rattle.std.proofs.lemmas.Nat.{div-add-mod', div_below, le-div}
use Rattle.std.proofs.lemmas.Grind.{div_ceil_times}
use Rattle.std.proofs.lemmas.Bool.{cases_Bool}
use Rattle.gm_frontier.specs.Pairs.{pairs_with}
use Rattle.std.proofs.Common.{◌*◌}
use Rattle.gm_frontier.proofs.CountLemmas.{notes_few}
use Rattle.gm_frontier.proofs.PairLemmas.{in_pairs, piece_positions_once, piece_canonical}
use Rattle.gm_frontier.proofs.TallyLemmas.{count_first, count_other}

-- the indexes of a tile
pub in_tile : (width k i : ℕ) → 0 < width → (i / width ≡ k) ↔ ((tile_start width k ≤ i) × (i < suc k * width))
in_tile width k i some = (
  (λ e. (let whole = div-add-mod' i width in let past = lt-div-mul-add {a = i} {b = width} some in
      let q : i / width * width ≡ k * width = ap (λ (j : ℕ). j * width) e in
      let next : suc k * width ≡ k * width + width = grind arith in
      (omega arith, omega arith))),
  (λ (low, high). (let a = le-div k i width some low in let b = div_below i width (suc k) some high in omega arith)),
)

-- the number of tiles, and the tile of an index
pub tile_below : (size width i : ℕ) → 0 < width → i < size → i / width < div_ceil size width
tile_below size width i some l =
    let (enough, more) = div_ceil_times size width some in
    div_below i width (div_ceil size width) some (omega arith)

-- counted tile by tile
tile_count-append : (width k : ℕ) (xs ys : List (NoteData × ℕ)) → tile_count width k (xs ++ ys) ≡ tile_count width k xs + tile_count width k ys
tile_count-append width k [] ys = omega arith
tile_count-append width k (x ∷ xs) ys = let rest = tile_count-append width k xs ys in omega arith

-- an index is in the tile and below the size, or it isn't
tile_test : (width size k i : ℕ) → 0 < width → is_within (tile_start width k) (tile_end size width k) i ≡ true → (is_within 0 size i ≡ true) × (i / width ≡ k)
tile_test width size k i some e =
    let low : k * width ≤ i = grind (arith, nat_tests) in
    let high : i < min (suc k * width) size = grind (arith, nat_tests) in
    let below : i < size = omega arith in
    (grind (arith, nat_tests), (in_tile width k i some).1 (low, omega arith))

tile_back : (width size k i : ℕ) → 0 < width → is_within 0 size i ≡ true → i / width ≡ k → is_within (tile_start width k) (tile_end size width k) i ≡ true
tile_back width size k i some e q =
    let below : i < size = grind (arith, nat_tests) in
    let (low, high) = (in_tile width k i some).0 q in
    let end : i < min (suc k * width) size = omega arith in
    grind (arith, nat_tests)

-- the pairs of a note, one index more
with_yes : (n : NoteData) (lo hi i : ℕ) (is : List ℕ) → is_within lo hi i ≡ true → pairs_with n lo hi (i ∷ is) ≡ (n, i) ∷ pairs_with n lo hi is
with_yes n lo hi i is e = ap (λ (b : Bool). map (λ (j : ℕ). (n, j)) (if b then i ∷ filter (is_within lo hi) is else filter (is_within lo hi) is)) e

with_no : (n : NoteData) (lo hi i : ℕ) (is : List ℕ) → is_within lo hi i ≡ false → pairs_with n lo hi (i ∷ is) ≡ pairs_with n lo hi is
with_no n lo hi i is e = ap (λ (b : Bool). map (λ (j : ℕ). (n, j)) (if b then i ∷ filter (is_within lo hi) is else filter (is_within lo hi) is)) e

row_count : (width size k : ℕ) → 0 < width → (n : NoteData) (is : List ℕ)
    → tile_count width k (pairs_with n 0 size is) ≡ length (pairs_with n (tile_start width k) (tile_end size width k) is)
row_count width size k some n [] = refl
row_count width size k some n (i ∷ is) =
    let rest = row_count width size k some n is in
    let there = pairs_with n 0 size is in
    let lo = tile_start width k in
    let hi = tile_end size width k in
    elim (cases_Bool (is_within lo hi i)) [
      | inl b ↦ (let (inside, q) = tile_test width size k i some b in
          let a = ap (tile_count width k) (with_yes n 0 size i is inside) ∙ count_first width k (n, i) there q in
          let h = ap (length {A = NoteData × ℕ}) (with_yes n lo hi i is b) in
          omega arith)
      | inr b ↦ (let h = ap (length {A = NoteData × ℕ}) (with_no n lo hi i is b) in
          elim (cases_Bool (is_within 0 size i)) [
            | inl inside ↦ (let q : i / width ≢ k = λ e. (let t = tile_back width size k i some inside e in cc) in
                let a = ap (tile_count width k) (with_yes n 0 size i is inside) ∙ count_other width k (n, i) there q in
                omega arith)
            | inr outside ↦ (let a = ap (tile_count width k) (with_no n 0 size i is outside) in omega arith)
          ])
    ]

-- of the pairs below the size as many have their parent in tile k as there are pairs into it
pub tile_is : (r : Rules) (tier width size k : ℕ) → 0 < width → (notes : List NoteData)
    → tile_count width k (pairs_of r tier 0 size notes) ≡ number_into r tier (tile_start width k) (tile_end size width k) notes
tile_is r tier width size k some [] = refl
tile_is r tier width size k some (n ∷ ns) =
    let lo = tile_start width k in
    let hi = tile_end size width k in
    let row = row_count width size k some n (r.parents n.position tier) in
    let rest = tile_is r tier width size k some ns in
    let a = tile_count-append width k (pairs_of_note r tier 0 size n) (pairs_of r tier 0 size ns) in
    let b = length-append (pairs_of_note r tier lo hi n) (pairs_of r tier lo hi ns) in
    omega arith

-- so what is counted is right
pub counts_right : (r : Rules) (tier width : ℕ) (notes : List NoteData) (counts : List ℕ) → 0 < width → length counts ≡ div_ceil (r.tier_size tier) width
    → ((k : ℕ) → k < length counts → get_or counts k 0 ≡ tile_count width k (pairs_of r tier 0 (r.tier_size tier) notes)) → AreCounts r tier width notes counts
counts_right r tier width notes counts some whole each = record {
  whole = whole;
  each = λ k l. each k l ∙ tile_is r tier width (r.tier_size tier) k some notes;
}

-- a piece of a level, as it is tallied
module _ (r : Rules) (g : IsGame r) (l : LevelData) (level : IsLevel r l.place l.notes) (small : r.tier_size l.place.tier ≤ TIER_SIZE)
    (piece n width size tiles : ℕ) (some : 0 < width) (e : size ≡ r.tier_size l.place.tier) (t : tiles ≡ div_ceil size width)
    (pairs : List (NoteData × ℕ)) (is : pairs ≡ pairs_of r l.place.tier 0 size (piece_of piece n l.notes)) where
  pub parents_in_tiles : (pair : NoteData × ℕ) → Contains pairs pair → pair.1 / width < tiles
  parents_in_tiles pair h =
      let (note, parent, low, high) = in_pairs r l.place.tier 0 size (piece_of piece n l.notes) pair
      (subst (λ (ps : List (NoteData × ℕ)). Contains ps pair) is h) in
      subst (λ (m : ℕ). pair.1 / width < m) (sym t) (tile_below size width pair.1 some high)

  pub pairs_fit : length pairs < 2 ^ 64
  pairs_fit =
      let few = notes_few r g l.place.tier 0 size (piece_of piece n l.notes) (piece_positions_once r g l.place l.notes level piece n)
      (piece_canonical r g l.place l.notes level piece n) in
      let same = ap (length {A = NoteData × ℕ}) is in
      omega arith

  pub tally_right : (counts : List ℕ) → length counts ≡ tiles → ((k : ℕ) → k < tiles → get_or counts k 0 ≡ tile_count width k pairs)
      → AreCounts r l.place.tier width (piece_of piece n l.notes) counts
  tally_right counts whole each =
      let all : pairs ≡ pairs_of r l.place.tier 0 (r.tier_size l.place.tier) (piece_of piece n l.notes) =
      is ∙ ap (λ (m : ℕ). pairs_of r l.place.tier 0 m (piece_of piece n l.notes)) e in
      counts_right r l.place.tier width (piece_of piece n l.notes) counts some (whole ∙ t ∙ ap (λ (m : ℕ). div_ceil m width) e)
      (λ k b. each k (omega arith) ∙ ap (tile_count width k) all)
