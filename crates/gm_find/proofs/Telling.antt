-- What is reported of found positions.
use Rattle.gm_find.proofs.Lower.{◌≡◌, ℕ, zero, suc, ◌+◌, ◌<◌, ◌++◌, ◌∙◌, length, sym, take, take_more, Contains-append_left, inl, inr, Bool, true, List, [], ◌∷◌, map, get_or, ap, subst, All, Contains, range_with_len, Contains-get_or, Position, Rules, at, contains_none, contains_first, contains_later, contains_cases, IsFirst, IsMatch, positions_in, all_positions, IsFound, found_position}
use Rattle.gm_game.proofs.Lists.{map_in, map_from}
use Rattle.gm_table.specs.Tables.{TableData}
use Rattle.gm_find.specs.declared.sought.Sought.{Sought}
use Rattle.gm_find.specs.Founds.{IsKnownAt, AreFound, AreTurned, AreChosen}
use Rattle.std.proofs.Common.{Result, Ok, Err, IfOk, Option, None, Some, ◌-◌, ◌^◌, drop, take-append-drop}
use Rattle.std.proofs.lemmas.List.Elements.{Contains-append_cases, All-contains}
use Rattle.std.proofs.lemmas.List.Sorted.{Contains-permutation, IsPermutation-sym}
use Rattle.gm_play.specs.Reached.{AreAllHeld}
use Rattle.gm_find.specs.declared.found.Found.{Found}
use Rattle.gm_find.specs.declared.sought.Choice.{Choice}
use Rattle.gm_find.specs.declared.sought.Choice.TheVariants.{First, Random, Sorted, Apart}
use Rattle.gm_find.proofs.Picking.{picked_all}
use Rattle.gm_find.specs.declared.sought.Order.{Order}
use Rattle.std.specs.List.{AllZip}
use Rattle.gm_game.specs.Rules.{IsCanonical}
use Rattle.gm_find.specs.Spreading.{IsInOrder, AreApartOf, IsImage}
use Rattle.gm_find.proofs.Spreading.{all_within, apart_in, in_order_in}

-- the first of those with a property have it, and are in the list
first_in : {A : Type 0} (P : A → Type 0) (n : ℕ) (xs ys : List A) → IsFirst P n xs ys → (y : A) → Contains ys y → P y × Contains xs y
first_in P n [] ys h y c = absurd (contains_none y (subst (λ l. Contains l y) h c))
first_in P zero (x ∷ xs) ys h y c = absurd (contains_none y (subst (λ l. Contains l y) h c))
first_in P (suc n) (x ∷ xs) ys (inl (rest, p, e, t)) y c =
    elim (contains_cases x y rest (subst (λ l. Contains l y) e c)) [
      | inl f ↦ (subst P f p, subst (Contains (x ∷ xs)) f (contains_first x xs))
      | inr d ↦ (let k = first_in P n xs rest t y d in (k.0, contains_later x y xs k.1))
    ]
first_in P (suc n) (x ∷ xs) ys (inr (p, t)) y c = let k = first_in P (suc n) xs ys t y c in (k.0, contains_later x y xs k.1)

-- a position of some tiers is one of one of them
tier_in : (r : Rules) (tiers : List ℕ) (p : Position) → Contains (all_positions r tiers) p → Contains tiers p.tier
tier_in r [] p c = absurd (contains_none p c)
tier_in r (t ∷ ts) p c = elim (Contains-append_cases (positions_in r t) (all_positions r ts) p c) [
  | inl d ↦ (let (i, has, e) = map_in (at t) (range_with_len 0 (r.tier_size t)) p d in subst (Contains (t ∷ ts)) (ap (λ (q : Position). q.tier) e)
      (contains_first t ts))
  | inr d ↦ contains_later t p.tier ts (tier_in r ts p d)
]

pub all_known : (r : Rules) (entries : List TableData) (q : Sought) (reached : Bool) (limit : ℕ) (tiers : List ℕ) (ps : List Position) →
    ((tier : ℕ) → Contains tiers tier → AreAllHeld r entries tier)
    → IsFirst (IsMatch r q reached) limit (all_positions r tiers) ps → All (IsKnownAt r entries) ps
all_known r entries q reached limit tiers ps held first k d inside =
    let p = get_or ps k d in
    let (match, there) = first_in (IsMatch r q reached) limit (all_positions r tiers) ps first p (Contains-get_or ps k d inside) in
    (match.canonical.0, held p.tier (tier_in r tiers p there))

-- a position that is found is one of one of the tiers
found_in : (r : Rules) (q : Sought) (reached : Bool) (n : ℕ) (tiers : List ℕ) (xs : List Found) → AreFound r q reached n tiers xs → (x : Found) → Contains xs x
    → (r.is_legal x.position ≡ true) × Contains tiers x.position.tier
found_in r q reached n tiers xs are x has = (
  (All-contains (IsFound r) xs x are.each has).legal,
  tier_in r tiers x.position
      (first_in (IsMatch r q reached) n (all_positions r tiers) (map found_position xs) are.positions x.position (map_from found_position xs x has)).1,
)

-- an image of a position that is known is known
zip_in : (r : Rules) (xs ys : List Position) → AllZip (IsImage r) xs ys → (y : Position) → Contains ys y → (x : Position) × Contains xs x × IsImage r x y
zip_in r [] [] h y has = absurd (contains_none y has)
zip_in r [] (z ∷ ys) h y has = absurd h
zip_in r (x ∷ xs) [] h y has = absurd h
zip_in r (x ∷ xs) (z ∷ ys) h y has = elim (contains_cases z y ys has) [
  | inl e ↦ (x, contains_first x xs, subst (IsImage r x) e h.0)
  | inr later ↦ (let (w, there, image) = zip_in r xs ys h.1 y later in (w, contains_later x w xs there, image))
]

pub images_known : (r : Rules) (entries : List TableData) (xs : List Found) (ps : List Position) → All (λ x. IsKnownAt r entries x.position) xs
    → AllZip (IsImage r) (map found_position xs) ps → All (IsKnownAt r entries) ps
images_known r entries xs ps known images k d inside =
    let p = get_or ps k d in
    let (q, has, image) = zip_in r (map found_position xs) ps images p (Contains-get_or ps k d inside) in
    let (x, there, e) = map_in found_position xs q has in
    let held : AreAllHeld r entries q.tier = subst (λ (c : Position). AreAllHeld r entries c.tier) e (All-contains (λ x. IsKnownAt r entries x.position) xs x known there).1 in
    (image.legal, subst (AreAllHeld r entries) (sym image.tier) held)

pub images_push : (r : Rules) (xs : List Found) (ps new : List Position) (k : ℕ) (d : Found) (p : Position) → k < length xs
    → AllZip (IsImage r) (map found_position (take k xs)) ps → IsImage r (get_or xs k d).position p → new ≡ ps ++ p ∷ []
    → AllZip (IsImage r) (map found_position (take (k + 1) xs)) new
images_push r xs ps new k d p inside before image e =
    rw (take_more xs k d inside, e) (zip_push (take k xs) ps before)
  where
    zip_push : (ys : List Found) (qs : List Position) → AllZip (IsImage r) (map found_position ys) qs
        → AllZip (IsImage r) (map found_position (ys ++ get_or xs k d ∷ [])) (qs ++ p ∷ [])
    zip_push [] [] h = (image, tt)
    zip_push [] (q ∷ qs) h = absurd h
    zip_push (y ∷ ys) [] h = absurd h
    zip_push (y ∷ ys) (q ∷ qs) h = (h.0, zip_push ys qs h.1)

-- what holds of positions in some tiers holds of what is taken in their place
turned_in : (r : Rules) (tries : Bool) (turn : Option ℕ) (tiers : List ℕ) (xs ys : List Found) → AreTurned r tries turn xs ys
    → ((x : Found) → Contains xs x → (r.is_legal x.position ≡ true) × Contains tiers x.position.tier) → (y : Found) → Contains ys y
    → (r.is_legal y.position ≡ true) × Contains tiers y.position.tier
turned_in r tries None tiers xs ys h all y has = all y (subst (λ (l : List Found). Contains l y) h has)
turned_in r tries (Some seed) tiers xs ys (images, each, counted) all y has =
    let (q, there, image) = zip_in r (map found_position xs) (map found_position ys) images y.position (map_from found_position ys y has) in
    let (x, inside, e) = map_in found_position xs q there in
    (image.legal, subst (Contains tiers) (ap (λ (c : Position). c.tier) e ∙ sym image.tier) (all x inside).1)

-- in any order they are known, and what is said of each holds
pub ordered_known : (r : Rules) (entries : List TableData) (q : Sought) (reached : Bool) (n : ℕ) (tiers : List ℕ) (order : Option Order) (xs ys : List Found) →
    ((tier : ℕ) → Contains tiers tier → AreAllHeld r entries tier) → AreFound r q reached n tiers xs → IsInOrder order xs ys
    → All (λ x. IsKnownAt r entries x.position) ys
ordered_known r entries q reached n tiers order xs ys held are sorted k d inside =
    let y = get_or ys k d in
    let (legal, there) = found_in r q reached n tiers xs are y (in_order_in order xs ys sorted y (Contains-get_or ys k d inside)) in
    (legal, held y.position.tier there)

pub apart_found : (r : Rules) (q : Sought) (reached : Bool) (k n : ℕ) (seed : Option ℕ) (tiers : List ℕ) (order : Option Order) (all ordered xs : List Found)
    → AreFound r q reached (2 ^ 64 - 1) tiers all → IsInOrder order all ordered → AreApartOf r k n seed ordered xs → All (IsFound r) xs
apart_found r q reached k n seed tiers order all ordered xs are sorted apart =
    all_within (IsFound r) all xs (λ y has. in_order_in order all ordered sorted y (apart_in r k n seed ordered xs apart y has)) are.each

pub apart_canonical : (r : Rules) (q : Sought) (reached : Bool) (k n : ℕ) (seed : Option ℕ) (tiers : List ℕ) (order : Option Order) (all ordered xs : List Found)
    → AreFound r q reached (2 ^ 64 - 1) tiers all → IsInOrder order all ordered → AreApartOf r k n seed ordered xs → All (λ x. IsCanonical r x.position) xs
apart_canonical r q reached k n seed tiers order all ordered xs are sorted apart =
    all_within (λ x. IsCanonical r x.position) all xs (λ y has. in_order_in order all ordered sorted y (apart_in r k n seed ordered xs apart y has))
    (λ i d inside. (
    let x = get_or all i d in
    (first_in (IsMatch r q reached) _ (all_positions r tiers) (map found_position all) are.positions x.position
    (map_from found_position all x (Contains-get_or all i d inside))).0.canonical))

pub apart_known : (r : Rules) (entries : List TableData) (k n : ℕ) (seed : Option ℕ) (ordered xs : List Found) → AreApartOf r k n seed ordered xs
    → All (λ x. IsKnownAt r entries x.position) ordered → All (λ x. IsKnownAt r entries x.position) xs
apart_known r entries k n seed ordered xs apart known = all_within (λ x. IsKnownAt r entries x.position) ordered xs (apart_in r k n seed ordered xs apart) known

-- a position that a choice takes is one of one of the tiers
pub chosen_in : (r : Rules) (q : Sought) (reached : Bool) (choice : Choice) (tiers : List ℕ) (xs : List Found) → AreChosen r q reached choice tiers xs →
    (x : Found) → Contains xs x
    → (r.is_legal x.position ≡ true) × Contains tiers x.position.tier
chosen_in r q reached (First n) tiers xs are x has = found_in r q reached n tiers xs are x has
chosen_in r q reached (Random n seed) tiers xs (all, are, sample, each, counted) x has =
    let P : Position → Type 0 = λ p. Contains tiers p.tier in
    let within : All P all = λ k d inside. tier_in r tiers (get_or all k d)
    (first_in (IsMatch r q reached) _ (all_positions r tiers) all are (get_or all k d) (Contains-get_or all k d inside)).1 in (
      (All-contains (IsFound r) xs x each has).legal,
      All-contains P (map found_position xs) x.position (picked_all P all (map found_position xs) sample.picked within) (map_from found_position xs x has),
    )
chosen_in r q reached (Sorted order n) tiers xs (all, sorted, are, rising, e) x has =
    let kept : Contains sorted x = subst (λ (l : List Found). Contains l x) (take-append-drop n sorted) (Contains-append_left (take n sorted) (drop n sorted) x (subst (λ (l : List Found). Contains l x) e has)) in
    let there : Contains all x = Contains-permutation sorted all x (IsPermutation-sym all sorted rising.same) kept in
    found_in r q reached (2 ^ 64 - 1) tiers all are x there
chosen_in r q reached (Apart order k n seed turn) tiers xs (all, ordered, apart, are, sorted, chosen, turned) x has =
    turned_in r q.tries turn tiers apart xs turned
    (λ y there. found_in r q reached (2 ^ 64 - 1) tiers all are y (in_order_in order all ordered sorted y (apart_in r k n seed ordered apart chosen y there))) x has

-- what holds where three things are reported
pub all_told : {T E : Type 0} → (m : Result T E) (A B C D : T → Type 0) → ((x : T) → A x → B x → C x → D x) → IfOk m A → IfOk m B → IfOk m C → IfOk m D
all_told (Ok x) A B C D f a b c = f x a b c
all_told (Err e) A B C D f a b c = tt
