-- How many pairs there are into a range: none before the first level, and each level adds its own.
use Rattle.gm_frontier.proofs.Lower.{◌≡◌, ℕ, zero, suc, ◌+◌, ◌<◌, ◌≤◌, inl, inr, Bool, true, false, List, [], ◌∷◌, ◌++◌, map, length, refl, sym, ap, subst, arith, Contains, flat_map, length-append, length-map, cases_lt, Contains-append_cases, Position, Phase, WinLose, Ties, Place, Rules, at, IsCanonical, IsParent, IsGame, IsLastLevel, contains_first, contains_later, map_from, HasNoRepeats, numbers_from, NoteData, IsLevel, positions, pairs_of}
use Rattle.std.proofs.lemmas.List.Elements.{Contains-append_left, Contains-append_right}
use Rattle.gm_game.specs.declared.limits.TheConstants.{MOVES}
use Rattle.gm_game.specs.Children.{canonical_children_of}
use Rattle.gm_game.proofs.Counts.{no_longer}
use Rattle.gm_frontier.specs.Counts.{IsNumberBefore}
use Rattle.gm_game.proofs.ChildrenLemmas.{canonical_children_listed}
use Rattle.std.proofs.Common.{◌*◌}
use Rattle.gm_table.proofs.Distinct.{no_repeats_from, no_repeats_to, no_repeats_append, flat_map_has}
use Rattle.gm_frontier.proofs.ForGame.{stands_now, now_stands, not_before_and_at, before_later, before_ties, ties_after, canonical_children_few}
use Rattle.gm_frontier.proofs.PairLemmas.{near_of_pair, bare_pairs, length-bare_pairs, bare_pairs_once, in_bare_pairs, positions_once, canonical_notes, level_pairs_exact}

-- with the pairs of one level there are so many more
module _ (r : Rules) (g : IsGame r) (lo hi : ℕ) (place : Place) (notes : List NoteData) (level : IsLevel r place notes) (number : ℕ)
    (before : IsNumberBefore r place.tier lo hi place.phase place.level number) where
  more : List (Position × ℕ)
  more = bare_pairs r place.tier lo hi notes

  all_once : HasNoRepeats (before.0 ++ more)
  unfolding more
  all_once =
      no_repeats_append before.0 (bare_pairs r place.tier lo hi notes) (no_repeats_from before.0 before.2.once)
      (bare_pairs_once r g place.tier lo hi notes (positions_once r g place notes level) (canonical_notes r g place notes level))
      (λ p a b. not_before_and_at r place.phase place.level p.0 ((before.2.each p).1 a).1 ((level_pairs_exact r g place notes level lo hi p).1 b).1)

  pub level_added : IsNumberBefore r place.tier lo hi place.phase (place.level + 1) (number + length (pairs_of r place.tier lo hi notes))
  unfolding more
  level_added = (
    before.0 ++ bare_pairs r place.tier lo hi notes,
    (let a = length-append before.0 (bare_pairs r place.tier lo hi notes) in let b = length-bare_pairs r place.tier lo hi notes in
        let c = before.1 in omega arith),
    record {
      each = λ (p : Position × ℕ). (
        (λ k. elim (stands_now r place.phase place.level p.0 k.1) [
          | inl b ↦ Contains-append_left before.0 (bare_pairs r place.tier lo hi notes) p ((before.2.each p).0 (k.0, b))
          | inr h ↦ Contains-append_right before.0 (bare_pairs r place.tier lo hi notes) p ((level_pairs_exact r g place notes level lo hi p).0 (k.0, h))
        ]),
        (λ h. elim (Contains-append_cases before.0 (bare_pairs r place.tier lo hi notes) p h) [
          | inl a ↦ (let k = (before.2.each p).1 a in (k.0, before_later r place.phase place.level (place.level + 1) p.0 (omega arith) k.1))
          | inr b ↦ (let k = (level_pairs_exact r g place notes level lo hi p).1 b in (k.0, now_stands r place.phase place.level p.0 k.1))
        ]),
      );
      once = no_repeats_to (before.0 ++ bare_pairs r place.tier lo hi notes) all_once;
    },
  )

-- if no win or loss is left, as many are before the first level of ties
pub ties_begin : (r : Rules) → IsGame r → (tier lo hi n number : ℕ) → IsLastLevel r tier WinLose n → IsNumberBefore r tier lo hi WinLose n number
    → IsNumberBefore r tier lo hi Ties 0 number
ties_begin r g tier lo hi n number last (xs, count, exact) = (
  xs,
  count,
  record {
    each = λ (p : Position × ℕ). (
      (λ k. (exact.each p).0 (k.0, before_ties r tier n p.0 last (near_of_pair r g tier p.1 p.0 k.0.is_parent) k.1)),
      (λ h. (let k = (exact.each p).1 h in (k.0, ties_after r n 0 p.0 k.1))),
    );
    once = exact.once;
  },
)

-- all pairs of a tier: each index of a legal position with each of its canonical children
with_parent : ℕ → Position → Position × ℕ
with_parent i c = (c, i)

row : Bool → Rules → ℕ → ℕ → List (Position × ℕ)
row true r tier i = map (with_parent i) (canonical_children_of r (at tier i))
row false r tier i = []

pairs_at : Rules → ℕ → ℕ → List (Position × ℕ)
pairs_at r tier i = row (r.is_legal (at tier i)) r tier i

pairs_at_few : (r : Rules) → IsGame r → (tier i : ℕ) → length (pairs_at r tier i) ≤ MOVES
unfolding pairs_at row
pairs_at_few r g tier i = few (r.is_legal (at tier i)) refl
  where
    few : (b : Bool) → r.is_legal (at tier i) ≡ b → length (row b r tier i) ≤ MOVES
    few true e = subst (λ (m : ℕ). m ≤ MOVES) (sym (length-map (canonical_children_of r (at tier i)) (with_parent i)))
        (canonical_children_few r g (at tier i) e)
    few false e = omega arith

pairs_at_has : (r : Rules) (tier i : ℕ) (c : Position) → IsParent r c tier i → Contains (pairs_at r tier i) (c, i)
unfolding pairs_at row with_parent
pairs_at_has r tier i c p =
    subst (λ (b : Bool). Contains (row b r tier i) (c, i)) (sym p.0.legal)
    (map_from (with_parent i) (canonical_children_of r (at tier i)) c (((canonical_children_listed r (at tier i)).exact c).1 p.1))

-- lists that are short, joined
pub flat_map_few : {X Y : Type 0} (f : X → List Y) (most : ℕ) (xs : List X) → ((x : X) → length (f x) ≤ most) → length (flat_map f xs) ≤ most * length xs
flat_map_few f most [] h = omega arith
flat_map_few f most (x ∷ xs) h =
    let a = length-append (f x) (flat_map f xs) in
    let b = h x in
    let c = flat_map_few f most xs h in
    let d : most * suc (length xs) ≡ most + most * length xs = grind arith in
    omega arith

pub length-numbers_from : (k n : ℕ) → length (numbers_from k n) ≡ n
length-numbers_from k zero = refl
length-numbers_from k (suc n) = ap suc (length-numbers_from (suc k) n)

pub numbers_have : (k n i : ℕ) → k ≤ i → i < k + n → Contains (numbers_from k n) i
numbers_have k zero i a b = absurd (omega arith)
numbers_have k (suc n) i a b = elim (cases_lt k i) [
  | inl l ↦ contains_later k i (numbers_from (suc k) n) (numbers_have (suc k) n i (omega arith) (omega arith))
  | inr l ↦ (let e : k ≡ i = omega arith in subst (λ (j : ℕ). Contains (k ∷ numbers_from (suc k) n) j) e (contains_first k (numbers_from (suc k) n)))
]

-- so there are no more than the tier's size times the limit on moves
pub pairs_few : (r : Rules) → IsGame r → (tier : ℕ) (xs : List (Position × ℕ)) → HasNoRepeats xs
    → ((p : Position × ℕ) → Contains xs p → IsParent r p.0 tier p.1) → length xs ≤ MOVES * r.tier_size tier
pairs_few r g tier xs once parents =
    let all = flat_map (pairs_at r tier) (numbers_from 0 (r.tier_size tier)) in
    let a = no_longer xs all once
    (λ (p : Position × ℕ) h. (let k = parents p h in
    let below : p.1 < r.tier_size tier = g.index_below (at tier p.1) k.0.legal in
    flat_map_has (pairs_at r tier) (numbers_from 0 (r.tier_size tier)) p.1 p (numbers_have 0 (r.tier_size tier) p.1 (omega arith) (omega arith))
    (pairs_at_has r tier p.1 p.0 k))) in
    let b = flat_map_few (pairs_at r tier) MOVES (numbers_from 0 (r.tier_size tier)) (pairs_at_few r g tier) in
    let c = length-numbers_from 0 (r.tier_size tier) in
    omega arith

-- of all levels before a place
pub number_few : (r : Rules) → IsGame r → (tier lo hi : ℕ) (phase : Phase) (n number : ℕ) → IsNumberBefore r tier lo hi phase n number
    → number ≤ MOVES * r.tier_size tier
number_few r g tier lo hi phase n number (xs, count, exact) =
    let a = pairs_few r g tier xs (no_repeats_from xs exact.once) (λ p h. ((exact.each p).1 h).0.is_parent) in omega arith

-- and of some notes
pub notes_few : (r : Rules) → IsGame r → (tier lo hi : ℕ) (notes : List NoteData) → HasNoRepeats (positions notes)
    → ((n : NoteData) → Contains notes n → IsCanonical r n.position) → length (pairs_of r tier lo hi notes) ≤ MOVES * r.tier_size tier
notes_few r g tier lo hi notes once canonical =
    let a = pairs_few r g tier (bare_pairs r tier lo hi notes) (bare_pairs_once r g tier lo hi notes once canonical)
    (λ p h. (in_bare_pairs r g tier lo hi notes once canonical p h).0.is_parent) in
    let b = length-bare_pairs r tier lo hi notes in
    omega arith
