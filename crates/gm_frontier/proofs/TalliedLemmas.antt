-- The tallies of a level's pieces add up to the number of its pairs.
use Rattle.gm_frontier.proofs.Lower.{◌≡◌, ℕ, zero, suc, ◌+◌, ◌/◌, ◌<◌, ◌≤◌, ◌^◌, ◌⊎◌, inl, inr, Bool, false, if◌then◌else◌, filter, None, Some, slice_get, List, [], ◌∷◌, ◌++◌, map, length, get_or, take, refl, sym, ap, subst, ◌∙◌, arith, sum_by, Contains, div_ceil, length-append, cases_lt, nat_tests, Place, TIER_SIZE, Rules, IsGame, contains_none, contains_first, contains_later, map_from, map_in, HasNoRepeats, NoteData, LevelData, IsLevel, is_within, pairs_of_note, pairs_of, piece_of, TallyData, IsTally, AreCounts, tile_start, tile_end, number_into, numbers_from}
use Rattle.std.proofs.lemmas.List.Sums.{sum_by-cons}
use Rattle.std.proofs.lemmas.Grind.{div_ceil_times}
use Rattle.gm_game.specs.Numbers.{ListsExactly}
use Rattle.gm_frontier.specs.Pairs.{pairs_with}
use Rattle.gm_frontier.specs.inner.Tallies.{AreTallies}
use Rattle.std.proofs.Math.Nat.{mul-div_cancel}
use Rattle.std.proofs.lemmas.List.Concat.{flat_map-append}
use Rattle.std.proofs.Common.{◌*◌}
use Rattle.gm_frontier.proofs.CountLemmas.{notes_few, numbers_have}
use Rattle.gm_table.proofs.Distinct.{no_repeats_from, no_repeats_to}
use Rattle.gm_frontier.proofs.LevelOnce.{level_once}
use Rattle.gm_frontier.proofs.PairLemmas.{positions_once, canonical_notes, contains_taken}
use Rattle.gm_frontier.proofs.SumLemmas.{sum_within, sum_same, numbers_in, numbers_once, sum_pieces}
use Rattle.gm_frontier.proofs.TileLemmas.{tile_below}

-- of joined lists of notes the numbers add up
number-append : (r : Rules) (tier lo hi : ℕ) (xs ys : List NoteData)
    → number_into r tier lo hi (xs ++ ys) ≡ number_into r tier lo hi xs + number_into r tier lo hi ys
number-append r tier lo hi xs ys = ap length (flat_map-append (pairs_of_note r tier lo hi) xs ys)
    ∙ length-append (pairs_of r tier lo hi xs) (pairs_of r tier lo hi ys)

-- so over all pieces of a list
pub number_pieces : (r : Rules) (tier lo hi n : ℕ) (notes : List NoteData) → 0 < n
    → sum_by (λ p. number_into r tier lo hi (piece_of p n notes)) (numbers_from 0 (div_ceil (length notes) n)) ≡ number_into r tier lo hi notes
number_pieces r tier lo hi n notes some =
    let (enough, more) = div_ceil_times (length notes) n some in
    sum_pieces (number_into r tier lo hi) refl (number-append r tier lo hi) n notes (div_ceil (length notes) n) (omega arith)

sum_map : {X : Type 0} (f : X → ℕ) (g : ℕ → ℕ) (h : X → ℕ) (xs : List X) → ((x : X) → Contains xs x → f x ≡ g (h x)) → sum_by f xs ≡ sum_by g (map h xs)
sum_map f g h [] e = refl
sum_map f g h (x ∷ xs) e =
    let a = sum_by-cons f x xs in
    let b = sum_by-cons g (h x) (map h xs) in
    let here = e x (contains_first x xs) in
    let rest = sum_map f g h xs (λ y i. e y (contains_later x y xs i)) in
    omega arith

-- tallies of one level, and one of their tiles
module _ (r : Rules) (g : IsGame r) (l : LevelData) (level : IsLevel r l.place l.notes) (n width k : ℕ)
    (inside : k < div_ceil (r.tier_size l.place.tier) width) where
  -- what a tally has at the tile
  pub entry : (t : TallyData) → IsTally r t → (t.place ≡ l.place) × (t.n ≡ n) × (t.width ≡ width)
      → get_or t.counts k 0 ≡ number_into r l.place.tier (tile_start width k) (tile_end (r.tier_size l.place.tier) width k) (piece_of t.piece n l.notes)
  entry t is (place, size, wide) =
      let notes : is.notes ≡ l.notes = level_once r l.place is.notes l.notes (subst (λ (p : Place). IsLevel r p is.notes) place is.level) level in
      let here : AreCounts r l.place.tier width (piece_of t.piece n l.notes) t.counts =
      subst (λ (ns : List NoteData). AreCounts r l.place.tier width (piece_of t.piece n ns) t.counts) notes
      (subst (λ (m : ℕ). AreCounts r l.place.tier width (piece_of t.piece m is.notes) t.counts) size
      (subst (λ (w : ℕ). AreCounts r l.place.tier w (piece_of t.piece t.n is.notes) t.counts) wide
      (subst (λ (p : Place). AreCounts r p.tier t.width (piece_of t.piece t.n is.notes) t.counts) place is.counts))) in
      let whole = here.whole in
      here.each k (omega arith)

  number_of : ℕ → ℕ
  number_of p = number_into r l.place.tier (tile_start width k) (tile_end (r.tier_size l.place.tier) width k) (piece_of p n l.notes)

  module _ (tallies : List TallyData) (are : (t : TallyData) → Contains tallies t → IsTally r t) (alike : (t : TallyData) → Contains tallies t
      → (t.place ≡ l.place) × (t.n ≡ n) × (t.width ≡ width)) (some : 0 < n)
      (once : HasNoRepeats (map (λ t. t.piece) tallies)) (below : (p : ℕ) → Contains (map (λ t. t.piece) tallies) p → p < div_ceil (length l.notes) n) where
    entries : sum_by (λ t. get_or t.counts k 0) tallies ≡ sum_by number_of (map (λ t. t.piece) tallies)
    unfolding number_of
    entries = sum_map (λ (t : TallyData). get_or t.counts k 0) number_of (λ (t : TallyData). t.piece) tallies (λ t i. entry t (are t i) (alike t i))

    all_pieces : sum_by number_of (numbers_from 0 (div_ceil (length l.notes) n)) ≡ number_into r l.place.tier (tile_start width k)
        (tile_end (r.tier_size l.place.tier) width k) l.notes
    unfolding number_of
    all_pieces = number_pieces r l.place.tier (tile_start width k) (tile_end (r.tier_size l.place.tier) width k) n l.notes some

    -- some of them count no more than the level has
    pub tallied_few : sum_by (λ t. get_or t.counts k 0) tallies ≤ number_into r l.place.tier (tile_start width k)
        (tile_end (r.tier_size l.place.tier) width k) l.notes
    tallied_few =
        let a = entries in
        let b = all_pieces in
        let c = sum_within number_of (map (λ (t : TallyData). t.piece) tallies) (numbers_from 0 (div_ceil (length l.notes) n)) once
        (λ p i. (let h = below p i in numbers_have 0 (div_ceil (length l.notes) n) p (omega arith) (omega arith))) in
        omega arith

    -- and one of each piece counts what it has
    pub tallied : ((p : ℕ) → p < div_ceil (length l.notes) n → Contains (map (λ t. t.piece) tallies) p)
        → sum_by (λ t. get_or t.counts k 0) tallies ≡ number_into r l.place.tier (tile_start width k) (tile_end (r.tier_size l.place.tier) width k) l.notes
    tallied each =
        entries ∙ sum_same number_of (map (λ (t : TallyData). t.piece) tallies) (numbers_from 0 (div_ceil (length l.notes) n)) once
        (numbers_once 0 (div_ceil (length l.notes) n))
        (λ p. (
          (λ i. (let h = below p i in numbers_have 0 (div_ceil (length l.notes) n) p (omega arith) (omega arith))),
          (λ i. (let (a, b) = numbers_in 0 (div_ceil (length l.notes) n) p i in each p (omega arith))),
        ))
        ∙ all_pieces

-- a range without indexes has no pairs
none_within : (hi lo : ℕ) → hi ≤ lo → (n : NoteData) (is : List ℕ) → length (pairs_with n lo hi is) ≡ 0
none_within hi lo e n [] = refl
none_within hi lo e n (i ∷ is) =
    ap (λ (b : Bool). length {A = NoteData × ℕ} (map (λ (j : ℕ). (n, j)) (if b then i ∷ filter (is_within lo hi) is else filter (is_within lo hi) is)))
    (outside i) ∙ none_within hi lo e n is
  where
    outside : (i : ℕ) → is_within lo hi i ≡ false
    outside i = grind (arith, nat_tests)

pub none_into : (r : Rules) (tier lo hi : ℕ) → hi ≤ lo → (notes : List NoteData) → number_into r tier lo hi notes ≡ 0
none_into r tier lo hi e [] = refl
none_into r tier lo hi e (n ∷ ns) =
    let a = length-append (pairs_of_note r tier lo hi n) (pairs_of r tier lo hi ns) in
    let b = none_within hi lo e n (r.parents n.position tier) in
    let c = none_into r tier lo hi e ns in
    omega arith

-- tallies as they are taken: of one level, one for each piece, and a tile
pieces_taken : (i : ℕ) (tallies : List TallyData) (p : ℕ) → Contains (map (λ t. t.piece) (take i tallies)) p → Contains (map (λ t. t.piece) tallies) p
pieces_taken i tallies p h = let (t, l, e) = map_in (λ (t : TallyData). t.piece) (take i tallies) p h in
    subst (Contains (map (λ (t : TallyData). t.piece) tallies)) e (map_from (λ (t : TallyData). t.piece) tallies t (contains_taken i tallies t l))

pieces_once : (i : ℕ) (tallies : List TallyData) → HasNoRepeats (map (λ t. t.piece) tallies) → HasNoRepeats (map (λ t. t.piece) (take i tallies))
pieces_once zero tallies n = tt
pieces_once (suc i) [] n = tt
pieces_once (suc i) (t ∷ ts) n = ((λ h. n.0 (pieces_taken i ts t.piece h)), pieces_once i ts n.1)

module _ (r : Rules) (g : IsGame r) (l : LevelData) (level : IsLevel r l.place l.notes) (small : r.tier_size l.place.tier ≤ TIER_SIZE) (lo hi : ℕ)
    (tallies : List TallyData) (h : AreTallies r l lo hi tallies) where
  -- the tile that a range with indexes is
  pub tile_of : lo < hi → (t : TallyData) → Contains tallies t → (k : ℕ) → k ≡ lo / t.width → 0 < t.width
      → (lo ≡ tile_start h.width k) × (hi ≡ tile_end (r.tier_size l.place.tier) h.width k) × (k < div_ceil (r.tier_size l.place.tier) h.width)
  tile_of below t there k e some = elim h.range [
    | inl none ↦ absurd (contains_none t (subst (λ (ts : List TallyData). Contains ts t) none there))
    | inr tile ↦ elim tile [
      | inl empty ↦ absurd (omega arith)
      | inr (j, start, end) ↦ (let (place, size, wide) = h.alike t there in
          let some' : 0 < h.width = subst (λ (w : ℕ). 0 < w) wide some in
          let same : k ≡ j = e ∙ ap (λ (w : ℕ). lo / w) wide ∙ ap (λ (m : ℕ). m / h.width) start ∙ mul-div_cancel j some' in
          let inside : lo < r.tier_size l.place.tier = omega arith in
          let tile : lo / h.width < div_ceil (r.tier_size l.place.tier) h.width = tile_below (r.tier_size l.place.tier) h.width lo some' inside in
          let here : lo / h.width ≡ k = ap (λ (w : ℕ). lo / w) (sym wide) ∙ sym e in (
            subst (λ (m : ℕ). lo ≡ tile_start h.width m) (sym same) start,
            subst (λ (m : ℕ). hi ≡ tile_end (r.tier_size l.place.tier) h.width m) (sym same) end,
            subst (λ (m : ℕ). m < div_ceil (r.tier_size l.place.tier) h.width) here tile,
          ))
    ]
  ]

  module _ (k : ℕ) (inside : k < div_ceil (r.tier_size l.place.tier) h.width) where
    pub so_far : (i : ℕ) → ((t : TallyData) → Contains (take i tallies) t → IsTally r t) → sum_by (λ t. get_or t.counts k 0) (take i tallies) < 2 ^ 64
    so_far i are =
        let few = tallied_few r g l level h.n h.width k inside (take i tallies) are (λ t m. h.alike t (contains_taken i tallies t m)) h.some_notes
        (pieces_once i tallies (no_repeats_from (map (λ (t : TallyData). t.piece) tallies) h.pieces.once))
        (λ p m. (h.pieces.each p).1 (pieces_taken i tallies p m)) in
        let bound = notes_few r g l.place.tier (tile_start h.width k) (tile_end (r.tier_size l.place.tier) h.width k) l.notes
        (positions_once r g l.place l.notes level) (canonical_notes r g l.place l.notes level) in
        omega arith

    pub finished : ((t : TallyData) → Contains tallies t → IsTally r t) → lo ≡ tile_start h.width k → hi ≡ tile_end (r.tier_size l.place.tier) h.width k
        → sum_by (λ t. get_or t.counts k 0) tallies ≡ number_into r l.place.tier lo hi l.notes
    finished are start end =
        tallied r g l level h.n h.width k inside tallies are h.alike h.some_notes (no_repeats_from (map (λ (t : TallyData). t.piece) tallies) h.pieces.once)
        (λ p m. (h.pieces.each p).1 m) (λ p m. (h.pieces.each p).0 m)
        ∙ ap (λ (m : ℕ). number_into r l.place.tier m (tile_end (r.tier_size l.place.tier) h.width k) l.notes) (sym start)
        ∙ ap (λ (m : ℕ). number_into r l.place.tier lo m l.notes) (sym end)

  -- without tallies the level has no notes
  pub none_tallied : tallies ≡ [] → number_into r l.place.tier lo hi l.notes ≡ 0
  none_tallied none = ap (λ (ns : List NoteData). number_into r l.place.tier lo hi ns) (empty l.notes no_piece)
    where
      no_piece : (p : ℕ) → p < div_ceil (length l.notes) h.n → ⊥
      no_piece p b = contains_none p (subst (λ (ts : List TallyData). Contains (map (λ (t : TallyData). t.piece) ts) p) none ((h.pieces.each p).0 b))

      empty : (ns : List NoteData) → ((p : ℕ) → p < div_ceil (length ns) h.n → ⊥) → ns ≡ []
      empty [] b = refl
      empty (n ∷ ns) b = (let (enough, more) = div_ceil_times (length (n ∷ ns)) h.n h.some_notes in
          let zero_or : (div_ceil (length (n ∷ ns)) h.n ≡ 0) ⊎ (0 < div_ceil (length (n ∷ ns)) h.n) =
          elim (cases_lt 0 (div_ceil (length (n ∷ ns)) h.n)) [ inl c ↦ inr c | inr c ↦ inl (omega arith) ] in
          elim zero_or [
            | inl z ↦ (let q : div_ceil (length (n ∷ ns)) h.n * h.n ≡ 0 * h.n = ap (λ (m : ℕ). m * h.n) z in let w : 0 * h.n ≡ 0 = grind arith in
                absurd (omega arith))
            | inr c ↦ absurd (b 0 c)
          ])

pub none_first : (tallies : List TallyData) → None ≡ slice_get tallies 0 → tallies ≡ []
none_first [] e = refl
none_first (t ∷ ts) e = absurd (cc)

pub first_in : (tallies : List TallyData) (t : TallyData) → Some t ≡ slice_get tallies 0 → Contains tallies t
first_in [] t e = absurd (cc)
first_in (u ∷ us) t e = let same : u ≡ t = cc in subst (Contains (u ∷ us)) same (contains_first u us)

-- numbers from 0 on, one more at the end
pub numbers_push : (k n : ℕ) → numbers_from k (n + 1) ≡ numbers_from k n ++ (k + n) ∷ []
numbers_push k zero = let e : k ≡ k + 0 = omega arith in ap (λ (m : ℕ). m ∷ []) e
numbers_push k (suc n) =
    let e : suc n + 1 ≡ suc (n + 1) = omega arith in
    let f : suc k + n ≡ k + suc n = omega arith in
    ap (numbers_from k) e ∙ ap (λ (ms : List ℕ). k ∷ ms) (numbers_push (suc k) n ∙ ap (λ (m : ℕ). numbers_from (suc k) n ++ m ∷ []) f)

-- tallies in the order of their pieces are one of each
pub tallies_in_order : (m : ℕ) (tallies : List TallyData) → map (λ t. t.piece) tallies ≡ numbers_from 0 m
    → ListsExactly (λ k. k < m) (map (λ t. t.piece) tallies)
tallies_in_order m tallies e = subst (ListsExactly (λ (k : ℕ). k < m)) (sym e) (record {
  each = λ k. ((λ b. numbers_have 0 m k (omega arith) (omega arith)), (λ h. (let (a, b) = numbers_in 0 m k h in omega arith)));
  once = no_repeats_to (numbers_from 0 m) (numbers_once 0 m);
})
