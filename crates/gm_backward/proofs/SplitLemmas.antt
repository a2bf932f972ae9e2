-- The pairs of a piece by the tiles that have their parents.
use Rattle.gm_backward.proofs.Lower.{◌≡◌, ℕ, zero, suc, ◌<◌, ◌≤◌, inl, inr, List, [], ◌∷◌, ◌++◌, length, slice_get, refl, sym, ap, subst, ◌∙◌, arith, Some, cases_lt, Contains, slice_get_within, slice_get-get_or, Place, Rules, NoteData, pairs_of, piece_of, Spot, tile_at, cut_at, Cuts}
use Rattle.std.proofs.Common.{◌&&◌, Bool, true, false, if◌then◌else◌, map, filter, set, length-set, get_or-set_same}
use Rattle.std.proofs.lemmas.Bool.{cases_eq}
use Rattle.gm_game.proofs.Lists.{contains_first}
use Rattle.gm_locks.specs.Pieces.{piece_pairs}
use Rattle.gm_backward.specs.inner.Split.{AreSplit, pairs_within}
use Rattle.std.proofs.lemmas.Bool.Decides.{nat_tests}
use Rattle.gm_frontier.proofs.PairLemmas.{in_pairs}
use Rattle.gm_frontier.specs.Pairs.{is_within, pairs_with, pairs_of_note}
use Rattle.gm_backward.specs.inner.Cuts.{AreAscendingCuts}
use Rattle.std.proofs.lemmas.List.Elements.{Contains-append_right, filter-append, filter_agree}

-- a filter of a filter, and of a mapped list
twice_step : {X : Type 0} (p : X → Bool) (x : X) (F Z : List X) → filter p F ≡ Z → (a : Bool)
    → filter p (if a then x ∷ F else F) ≡ (if (a && p x) then x ∷ Z else Z)
twice_step {X} p x F Z e true = ap (λ (ys : List X). if p x then x ∷ ys else ys) e
twice_step p x F Z e false = e

filter_twice : {X : Type 0} (p q : X → Bool) (xs : List X) → filter p (filter q xs) ≡ filter (λ x. q x && p x) xs
filter_twice p q [] = refl
filter_twice p q (x ∷ xs) = twice_step p x (filter q xs) (filter (λ y. q y && p y) xs) (filter_twice p q xs) (q x)

map_step : {X Y : Type 0} (f : X → Y) (x : X) (A : List Y) (B : List X) → A ≡ map f B → (b : Bool) → (if b then f x ∷ A else A) ≡ map f (if b then x ∷ B else B)
map_step {X} {Y} f x A B e true = ap (λ (ys : List Y). f x ∷ ys) e
map_step f x A B e false = e

filter_mapped : {X Y : Type 0} (f : X → Y) (p : Y → Bool) (xs : List X) → filter p (map f xs) ≡ map f (filter (λ x. p (f x)) xs)
filter_mapped f p [] = refl
filter_mapped f p (x ∷ xs) = map_step f x (filter p (map f xs)) (filter (λ y. p (f y)) xs) (filter_mapped f p xs) (p (f x))

-- the cuts ascend from tile to tile
pub step_up : (size : ℕ) (cuts : Cuts) → AreAscendingCuts size cuts → (k : ℕ) → cut_at size cuts k ≤ cut_at size cuts (suc k)
step_up size cuts up zero = omega arith
step_up size cuts up (suc zero) = up.low
step_up size cuts up (suc (suc zero)) = up.high
step_up size cuts up (suc (suc (suc zero))) = up.end
step_up size cuts up (suc (suc (suc (suc k)))) = omega arith

cuts_up : (size : ℕ) (cuts : Cuts) → AreAscendingCuts size cuts → (k j : ℕ) → k ≤ j → cut_at size cuts k ≤ cut_at size cuts j
cuts_up size cuts up k zero l = (let e : k ≡ 0 = omega arith in subst (λ (m : ℕ). cut_at size cuts m ≤ 0) (sym e) (omega arith))
cuts_up size cuts up k (suc j) l = elim (cases_lt j k) [
  | inl less ↦ (let e : suc j ≡ k = omega arith in subst (λ (m : ℕ). cut_at size cuts k ≤ cut_at size cuts m) (sym e) (omega arith))
  | inr more ↦ (let before = cuts_up size cuts up k j more in let last = step_up size cuts up j in omega arith)
]

pub cut_within : (size : ℕ) (cuts : Cuts) → AreAscendingCuts size cuts → (k : ℕ) → k < 4 → cut_at size cuts (suc k) ≤ size
cut_within size cuts up k l = cuts_up size cuts up (suc k) 4 (omega arith)

-- so an index is in one tile only
one_tile : (size : ℕ) (cuts : Cuts) → AreAscendingCuts size cuts → (j k i : ℕ) → cut_at size cuts j ≤ i → i < cut_at size cuts (suc j)
    → cut_at size cuts k ≤ i → i < cut_at size cuts (suc k) → k ≡ j
one_tile size cuts up j k i low high from to = elim (cases_lt k j) [
  | inl less ↦ (let before = cuts_up size cuts up (suc k) j (omega arith) in absurd (omega arith))
  | inr more ↦ elim (cases_lt j k) [
    | inl less ↦ (let before = cuts_up size cuts up (suc j) k (omega arith) in absurd (omega arith))
    | inr same ↦ omega arith
  ]
]

-- an index that is within a part is within the whole
same_test : (size lo hi i : ℕ) → hi ≤ size → (is_within 0 size i && is_within lo hi i) ≡ is_within lo hi i
same_test size lo hi i within = elim (cases_lt i hi) [
  | inl below ↦ (let all : i < size = omega arith in grind (arith, nat_tests))
  | inr past ↦ grind (arith, nat_tests)
]

-- so the pairs into a tile are those of all pairs whose parent is there
row_list : (size lo hi : ℕ) → hi ≤ size → (n : NoteData) (is : List ℕ) → pairs_within lo hi (pairs_with n 0 size is) ≡ pairs_with n lo hi is
row_list size lo hi within n is =
    filter_mapped (λ (i : ℕ). (n, i)) (λ pair. is_within lo hi pair.1) (filter (is_within 0 size) is)
    ∙ ap (map (λ (i : ℕ). (n, i))) (filter_twice (λ i. is_within lo hi i) (is_within 0 size) is
    ∙ filter_agree (λ i. is_within 0 size i && is_within lo hi i) (is_within lo hi) (λ i. same_test size lo hi i within) is)

tile_list : (r : Rules) (tier size lo hi : ℕ) → hi ≤ size → (notes : List NoteData)
    → pairs_within lo hi (pairs_of r tier 0 size notes) ≡ pairs_of r tier lo hi notes
tile_list r tier size lo hi within [] = refl
tile_list r tier size lo hi within (n ∷ notes) =
    filter-append (λ pair. is_within lo hi pair.1) (pairs_of_note r tier 0 size n) (pairs_of r tier 0 size notes)
    ∙ ap (λ (ps : List (NoteData × ℕ)). ps ++ pairs_within lo hi (pairs_of r tier 0 size notes)) (row_list size lo hi within n (r.parents n.position tier))
    ∙ ap (λ (ps : List (NoteData × ℕ)). pairs_of_note r tier lo hi n ++ ps) (tile_list r tier size lo hi within notes)

-- one pair more is put into its list
one_in : (lo hi : ℕ) (pairs : List (NoteData × ℕ)) (x : NoteData × ℕ) → lo ≤ x.1 → x.1 < hi
    → pairs_within lo hi pairs ++ x ∷ [] ≡ pairs_within lo hi (pairs ++ x ∷ [])
one_in lo hi pairs x low high = let yes : is_within lo hi x.1 ≡ true = grind (arith, nat_tests) in
    sym (filter-append (λ pair. is_within lo hi pair.1) pairs (x ∷ []) ∙ ap (λ (b : Bool). pairs_within lo hi pairs ++ (if b then x ∷ [] else [])) yes)

none_in : (lo hi : ℕ) (pairs : List (NoteData × ℕ)) (x : NoteData × ℕ) → (lo ≤ x.1 → x.1 < hi → ⊥) → pairs_within lo hi pairs ≡ pairs_within lo hi (pairs ++ x ∷ [])
none_in lo hi pairs x o =
    let no : is_within lo hi x.1 ≡ false = elim (cases_lt x.1 lo) [
      | inl below ↦ grind (arith, nat_tests)
      | inr from ↦ elim (cases_lt x.1 hi) [ inl to ↦ absurd (o from to) | inr past ↦ grind (arith, nat_tests) ]
    ] in
    let end = filter-append (λ pair. is_within lo hi pair.1) pairs (x ∷ []) ∙ ap (λ (b : Bool). pairs_within lo hi pairs ++ (if b then x ∷ [] else [])) no in
    sym (end ∙ nothing_more (pairs_within lo hi pairs))
  where
    nothing_more : (ps : List (NoteData × ℕ)) → ps ++ [] ≡ ps
    nothing_more [] = refl
    nothing_more (p ∷ ps) = ap (λ (qs : List (NoteData × ℕ)). p ∷ qs) (nothing_more ps)

set_at : (i : ℕ) (vs : List (List (NoteData × ℕ))) (v : List (NoteData × ℕ)) → i < length vs → slice_get (set vs i v) i ≡ Some v
set_at i vs v l = let long = length-set vs i v in slice_get-get_or (set vs i v) i v (omega arith) ∙ ap Some (get_or-set_same vs i v v l)

set_past : (i j : ℕ) (vs : List (List (NoteData × ℕ))) (v : List (NoteData × ℕ)) → (i ≡ j → ⊥) → slice_get (set vs j v) i ≡ slice_get vs i
set_past i j [] v o = refl
set_past zero zero (w ∷ vs) v o = absurd (o refl)
set_past zero (suc j) (w ∷ vs) v o = refl
set_past (suc i) zero (w ∷ vs) v o = refl
set_past (suc i) (suc j) (w ∷ vs) v o = set_past i j vs v (λ e. o (ap suc e))

pub split_more : (size : ℕ) (cuts : Cuts) (j : ℕ) (old new : List (List (NoteData × ℕ))) (was list : List (NoteData × ℕ)) (x : NoteData × ℕ)
    → AreAscendingCuts size cuts → cut_at size cuts j ≤ x.1 → x.1 < cut_at size cuts (suc j)
    → slice_get old j ≡ Some was → list ≡ was ++ x ∷ [] → new ≡ set old j list
    → (pairs : List (NoteData × ℕ)) → AreSplit size cuts pairs old → AreSplit size cuts (pairs ++ x ∷ []) new
split_more size cuts j old new was list x up low high at more is pairs h = record {
  each = λ k v e. elim (cases_eq k j) [
    | inl same ↦ (let there : slice_get new j ≡ Some list = ap (λ (vs : List (List (NoteData × ℕ))). slice_get vs j) is
        ∙ set_at j old list (slice_get_within old j was at) in
        let here : Some v ≡ Some list = sym e ∙ ap (slice_get new) same ∙ there in
        let v_is : v ≡ list = cc in
        v_is ∙ more ∙ ap (λ (ps : List (NoteData × ℕ)). ps ++ x ∷ []) (h.each j was at)
        ∙ one_in (cut_at size cuts j) (cut_at size cuts (suc j)) pairs x low high
        ∙ ap (λ (m : ℕ). pairs_within (cut_at size cuts m) (cut_at size cuts (suc m)) (pairs ++ x ∷ [])) (sym same))
    | inr other ↦ (let before : slice_get old k ≡ Some v = sym (set_past k j old list other)
        ∙ ap (λ (vs : List (List (NoteData × ℕ))). slice_get vs k) (sym is) ∙ e in
        h.each k v before
        ∙ none_in (cut_at size cuts k) (cut_at size cuts (suc k)) pairs x (λ from to. other (one_tile size cuts up j k x.1 low high from to)))
  ];
}

-- the list of a tile has the pairs of the piece into it
pub list_is : (r : Rules) (place : Place) (cuts : Cuts) (n piece k size : ℕ) (notes ns : List NoteData) (lists : List (List (NoteData × ℕ)))
    (list : List (NoteData × ℕ)) (spot : Spot) → AreAscendingCuts (r.tier_size place.tier) cuts → k < 4
    → AreSplit (r.tier_size place.tier) cuts (pairs_of r place.tier 0 (r.tier_size place.tier) (piece_of piece n ns)) lists → slice_get lists k ≡ Some list
    → spot ≡ tile_at r place cuts k → notes ≡ ns → size ≡ n → list ≡ piece_pairs r spot notes size piece
list_is r place cuts n piece k size notes ns lists list spot up few split at tile same cut =
    let whole = r.tier_size place.tier in
    split.each k list at
    ∙ tile_list r place.tier whole (cut_at whole cuts k) (cut_at whole cuts (suc k)) (cut_within whole cuts up k few) (piece_of piece n ns)
    ∙ ap (λ (s : Spot). piece_pairs r s ns n piece) (sym tile) ∙ ap (λ (ms : List NoteData). piece_pairs r spot ms n piece) (sym same)
    ∙ ap (λ (m : ℕ). piece_pairs r spot notes m piece) (sym cut)

-- the next pair of a walk has its parent in the tier
pub next_fits : (r : Rules) (tier : ℕ) (notes : List NoteData) (done rest : List (NoteData × ℕ)) (x : NoteData × ℕ)
    → done ++ x ∷ rest ≡ pairs_of r tier 0 (r.tier_size tier) notes → x.1 < r.tier_size tier
next_fits r tier notes done rest x e =
    let inside = subst (λ (ps : List (NoteData × ℕ)). Contains ps x) e (Contains-append_right done (x ∷ rest) x (contains_first x rest)) in
    let (note, parent, low, high) = in_pairs r tier 0 (r.tier_size tier) notes x inside in
    high
