-- The pairs of a level's notes: each pair whose child is at the place, once.
use Rattle.gm_frontier.proofs.Lower.{◌≡◌, ℕ, zero, suc, ◌<◌, ◌≤◌, ◌↔◌, inl, inr, true, List, [], ◌∷◌, take, drop, map, filter, refl, sym, ap, ap₂, subst, ◌∙◌, arith, length, Contains, length-map, nat_tests, Position, Place, Rules, at, IsAscending, IsCanonical, IsParent, IsGame, StandsAt, contains_none, contains_first, contains_later, contains_cases, map_from, map_in, HasNoRepeats, NoteData, positions, IsLevel, comes_first, is_within, pairs_of_note, pairs_of, piece_of}
use Rattle.gm_game.specs.Places.{IsNear}
use Rattle.gm_game.proofs.Symmetry.{near_child}
use Rattle.gm_frontier.specs.Counts.{IsPairInto}
use Rattle.std.proofs.Common.{◌*◌}
use Rattle.gm_table.proofs.Distinct.{in_filter, filter_has, in_flat_map, flat_map_has, no_repeats_map, no_repeats_before, same_image, no_repeats_filter, no_repeats_flat_map, no_repeats_ascending}
use Rattle.gm_frontier.proofs.OrderLemmas.{in_order_once, first_one_way}

within_from : (lo hi i : ℕ) → lo ≤ i → i < hi → is_within lo hi i ≡ true
within_from lo hi i a b = grind (arith, nat_tests)

within_to : (lo hi i : ℕ) → is_within lo hi i ≡ true → (lo ≤ i) × (i < hi)
within_to lo hi i e = (grind (arith, nat_tests), grind (arith, nat_tests))

-- what is a pair of some notes
pub in_pairs : (r : Rules) (tier lo hi : ℕ) (notes : List NoteData) (x : NoteData × ℕ) → Contains (pairs_of r tier lo hi notes) x
    → Contains notes x.0 × Contains (r.parents x.0.position tier) x.1 × (lo ≤ x.1) × (x.1 < hi)
in_pairs r tier lo hi notes x h =
    let (n, l, k) = in_flat_map (pairs_of_note r tier lo hi) notes x h in
    let (i, m, e) = map_in (λ (j : ℕ). (n, j)) (filter (is_within lo hi) (r.parents n.position tier)) x k in
    let (p, w) = in_filter (is_within lo hi) (r.parents n.position tier) i m in
    let (a, b) = within_to lo hi i w in
    subst (λ (y : NoteData × ℕ). Contains notes y.0 × Contains (r.parents y.0.position tier) y.1 × (lo ≤ y.1) × (y.1 < hi)) e (l, p, a, b)

pub pairs_have : (r : Rules) (tier lo hi : ℕ) (notes : List NoteData) (n : NoteData) (i : ℕ) → Contains notes n → Contains (r.parents n.position tier) i
    → lo ≤ i → i < hi → Contains (pairs_of r tier lo hi notes) (n, i)
pairs_have r tier lo hi notes n i h p a b =
    flat_map_has (pairs_of_note r tier lo hi) notes n (n, i) h
    (map_from (λ (j : ℕ). (n, j)) (filter (is_within lo hi) (r.parents n.position tier)) i
    (filter_has (is_within lo hi) (r.parents n.position tier) i p (within_from lo hi i a b)))

-- each pair once
pub no_repeats_pairs : (r : Rules) (tier lo hi : ℕ) (notes : List NoteData) → ((n : NoteData) → Contains notes n → IsAscending (r.parents n.position tier))
    → HasNoRepeats notes → HasNoRepeats (pairs_of r tier lo hi notes)
no_repeats_pairs r tier lo hi notes up once =
    no_repeats_flat_map (pairs_of_note r tier lo hi) notes once
    (λ n l. no_repeats_map (λ (j : ℕ). (n, j)) (filter (is_within lo hi) (r.parents n.position tier)) (λ i j a b e. ap (λ (y : NoteData × ℕ). y.1) e)
    (no_repeats_filter (is_within lo hi) (r.parents n.position tier) (no_repeats_ascending (r.parents n.position tier) (up n l))))
    (λ n m x a b p q.
    (let (i, k, e) = map_in (λ (j : ℕ). (n, j)) (filter (is_within lo hi) (r.parents n.position tier)) x p in
    let (j, l, f) = map_in (λ (j : ℕ). (m, j)) (filter (is_within lo hi) (r.parents m.position tier)) x q in
    ap (λ (y : NoteData × ℕ). y.0) (e ∙ sym f)))

-- a canonical child of a position of the tier is in the tier or a child tier
pub near_of_pair : (r : Rules) → IsGame r → (tier i : ℕ) (c : Position) → IsParent r c tier i → IsNear r tier c
near_of_pair r g tier i c p = near_child r g tier (at tier i) c refl p.0.legal p.1

-- a pair as a child and an index
pub bare : NoteData × ℕ → Position × ℕ
bare x = (x.0.position, x.1)

pub bare_pairs : Rules → ℕ → ℕ → ℕ → List NoteData → List (Position × ℕ)
bare_pairs r tier lo hi notes = map bare (pairs_of r tier lo hi notes)

pub length-bare_pairs : (r : Rules) (tier lo hi : ℕ) (notes : List NoteData) → length (bare_pairs r tier lo hi notes) ≡ length (pairs_of r tier lo hi notes)
unfolding bare_pairs
length-bare_pairs r tier lo hi notes = length-map (pairs_of r tier lo hi notes) bare

-- the pairs of notes of different canonical positions
module _ (r : Rules) (g : IsGame r) (tier lo hi : ℕ) (notes : List NoteData) (once : HasNoRepeats (positions notes))
    (canonical : (n : NoteData) → Contains notes n → IsCanonical r n.position) where
  pub pairs_once : HasNoRepeats (pairs_of r tier lo hi notes)
  pairs_once = no_repeats_pairs r tier lo hi notes (λ n l. g.parents_ascending n.position tier (canonical n l))
      (no_repeats_before (λ (n : NoteData). n.position) notes once)

  pub bare_pairs_once : HasNoRepeats (bare_pairs r tier lo hi notes)
  unfolding bare_pairs bare
  bare_pairs_once =
      no_repeats_map bare (pairs_of r tier lo hi notes)
      (λ x y a b e. (let n = same_image (λ (m : NoteData). m.position) notes once x.0 y.0 (in_pairs r tier lo hi notes x a).0
      (in_pairs r tier lo hi notes y b).0 (ap (λ (z : Position × ℕ). z.0) e) in
      let i : x.1 ≡ y.1 = ap (λ (z : Position × ℕ). z.1) e in ap₂ (λ (m : NoteData) (j : ℕ). (m, j)) n i))
      pairs_once

  -- each is a pair of the tier into the range
  pub in_bare_pairs : (p : Position × ℕ) → Contains (bare_pairs r tier lo hi notes) p → IsPairInto r tier lo hi p.0 p.1 × Contains (positions notes) p.0
  unfolding bare_pairs bare
  in_bare_pairs p h =
      let (x, l, e) = map_in bare (pairs_of r tier lo hi notes) p h in
      let (note, parent, low, high) = in_pairs r tier lo hi notes x l in
      subst (λ (q : Position × ℕ). IsPairInto r tier lo hi q.0 q.1 × Contains (positions notes) q.0) e (
        record { low = low; high = high; is_parent = (g.parents_exact x.0.position tier x.1 (canonical x.0 note)).0 parent },
        map_from (λ (m : NoteData). m.position) notes x.0 note,
      )

  pub bare_pairs_have : (p : Position × ℕ) → IsPairInto r tier lo hi p.0 p.1 → Contains (positions notes) p.0 → Contains (bare_pairs r tier lo hi notes) p
  unfolding bare_pairs bare
  bare_pairs_have p k there =
      let (n, l, e) = map_in (λ (m : NoteData). m.position) notes p.0 there in
      let listed : Contains (r.parents n.position tier) p.1 =
      (g.parents_exact n.position tier p.1 (canonical n l)).1 (subst (λ (c : Position). IsParent r c tier p.1) (sym e) k.is_parent) in
      let pair = pairs_have r tier lo hi notes n p.1 l listed k.low k.high in
      subst (λ (c : Position). Contains (map bare (pairs_of r tier lo hi notes)) (c, p.1)) e (map_from bare (pairs_of r tier lo hi notes) (n, p.1) pair)

-- the notes of a level
module _ (r : Rules) (g : IsGame r) (place : Place) (notes : List NoteData) (level : IsLevel r place notes) where
  pub positions_once : HasNoRepeats (positions notes)
  positions_once = in_order_once (comes_first place.tier) (first_one_way place.tier) (positions notes) level.ordered

  pub canonical_notes : (n : NoteData) → Contains notes n → IsCanonical r n.position
  canonical_notes n l = (level.noted n l).note.canonical

  -- the pairs into a range are exactly those whose child is at the place
  pub level_pairs_exact : (lo hi : ℕ) (p : Position × ℕ) → (IsPairInto r place.tier lo hi p.0 p.1 × StandsAt r place.phase place.level p.0)
      ↔ Contains (bare_pairs r place.tier lo hi notes) p
  level_pairs_exact lo hi p = (
    (λ k. (let near = near_of_pair r g place.tier p.1 p.0 k.0.is_parent in
        bare_pairs_have r g place.tier lo hi notes positions_once canonical_notes p k.0 ((level.each p.0).0 (near.0, near.1, k.1)))),
    (λ h. (let k = in_bare_pairs r g place.tier lo hi notes positions_once canonical_notes p h in (k.0, ((level.each p.0).1 k.1).2))),
  )

-- a piece of a list without repeats
pub contains_taken : {X : Type 0} (n : ℕ) (xs : List X) (x : X) → Contains (take n xs) x → Contains xs x
contains_taken zero xs x h = absurd (contains_none x h)
contains_taken (suc n) [] x h = h
contains_taken {X} (suc n) (y ∷ ys) x h = elim (contains_cases y x (take n ys) h) [
  | inl e ↦ subst (λ (z : X). Contains (y ∷ ys) z) e (contains_first y ys)
  | inr t ↦ contains_later y x ys (contains_taken n ys x t)
]

contains_dropped : {X : Type 0} (n : ℕ) (xs : List X) (x : X) → Contains (drop n xs) x → Contains xs x
contains_dropped zero xs x h = h
contains_dropped (suc n) [] x h = h
contains_dropped (suc n) (y ∷ ys) x h = contains_later y x ys (contains_dropped n ys x h)

no_repeats_take : {X : Type 0} (n : ℕ) (xs : List X) → HasNoRepeats xs → HasNoRepeats (take n xs)
no_repeats_take zero xs h = tt
no_repeats_take (suc n) [] h = tt
no_repeats_take (suc n) (x ∷ xs) h = ((λ k. h.0 (contains_taken n xs x k)), no_repeats_take n xs h.1)

no_repeats_drop : {X : Type 0} (n : ℕ) (xs : List X) → HasNoRepeats xs → HasNoRepeats (drop n xs)
no_repeats_drop zero xs h = h
no_repeats_drop (suc n) [] h = tt
no_repeats_drop (suc n) (x ∷ xs) h = no_repeats_drop n xs h.1

pub in_piece : (piece n : ℕ) (notes : List NoteData) (m : NoteData) → Contains (piece_of piece n notes) m → Contains notes m
in_piece piece n notes m h = contains_dropped (piece * n) notes m (contains_taken n (drop (piece * n) notes) m h)

map-piece_of : (piece n : ℕ) (notes : List NoteData) → positions (piece_of piece n notes) ≡ take n (drop (piece * n) (positions notes))
map-piece_of piece n notes = map-take n (drop (piece * n) notes) ∙ ap (take n) (map-drop (piece * n) notes)
  where
    map-take : (n : ℕ) (ns : List NoteData) → positions (take n ns) ≡ take n (positions ns)
    map-take zero ns = refl
    map-take (suc n) [] = refl
    map-take (suc n) (m ∷ ms) = ap (λ (ps : List Position). m.position ∷ ps) (map-take n ms)

    map-drop : (n : ℕ) (ns : List NoteData) → positions (drop n ns) ≡ drop n (positions ns)
    map-drop zero ns = refl
    map-drop (suc n) [] = refl
    map-drop (suc n) (m ∷ ms) = map-drop n ms

-- the notes of a piece of a level
module _ (r : Rules) (g : IsGame r) (place : Place) (notes : List NoteData) (level : IsLevel r place notes) (piece n : ℕ) where
  pub piece_positions_once : HasNoRepeats (positions (piece_of piece n notes))
  piece_positions_once = subst HasNoRepeats (sym (map-piece_of piece n notes))
      (no_repeats_take n (drop (piece * n) (positions notes)) (no_repeats_drop (piece * n) (positions notes) (positions_once r g place notes level)))

  pub piece_canonical : (m : NoteData) → Contains (piece_of piece n notes) m → IsCanonical r m.position
  piece_canonical m h = canonical_notes r g place notes level m (in_piece piece n notes m h)
