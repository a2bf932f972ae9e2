-- Tiers that can't come after those before them.
use Rattle.gm_engine.proofs.Lower.{◌≡◌, ◌≤◌, ◌<◌, ◌+◌, ◌++◌, ℕ, List, [], ◌∷◌, Some, inr, length, map, take, drop, get_or, slice_index_or, subst, sym, ap, arith, ◌∙◌, take_more, slice_get-get_or, Rules, TableData, Width, AreTrueTiers, room, AreDisordered, IsNotNext, HaveTables}
use Rattle.std.proofs.Common.{◌⊎◌, inl, slice_get}
use Rattle.std.specs.List.{Contains, sum}
use Rattle.std.proofs.lemmas.List.{take-append-le, length-append, take-append-drop, get_or_append_left}
use Rattle.std.proofs.lemmas.List.Elements.{Contains-append_cases, Contains-get_or}
use Rattle.std.proofs.lemmas.List.Sums.{sum_by-cons}
use Rattle.std.proofs.lemmas.Option.{slice_get_within, get_or_from_slice_get}
use Rattle.std.proofs.Math.Seq.{take-append_seam, get_or-append_seam}
use Rattle.gm_game.specs.declared.limits.TheConstants.{TIER_SIZE}
use Rattle.gm_table.specs.Tables.{IsHeld}
use Rattle.gm_tiers.specs.Orders.{ComeChildrenFirst}
use Rattle.gm_engine.specs.Refusing.{IsEarly}
use Rattle.gm_engine.proofs.Trueness.{long}

-- one more tier has a table
pub have_more : (old new : List TableData) (tiers : List ℕ) (k : ℕ) → k < length tiers → HaveTables old (take k tiers)
    → ((t : ℕ) → IsHeld old t ⊎ (slice_index_or tiers k 0 ≡ t) → IsHeld new t) → HaveTables new (take (k + 1) tiers)
have_more old new tiers k within have more t has =
    elim (Contains-append_cases (take k tiers) (slice_index_or tiers k 0 ∷ []) t (subst (λ (v : List ℕ). Contains v t) (take_more tiers k 0 within) has)) [
      | inl before ↦ more t (inl (have t before))
      | inr (i, inside, same) ↦
          let first : i ≡ 0 = omega arith in
          more t (inr (subst (λ (j : ℕ). get_or (slice_index_or tiers k 0 ∷ []) j t ≡ t) first same))
    ]

-- an item of a list with one more at its end
pub item_of_more : (xs : List ℕ) (x : ℕ) (k y : ℕ) → slice_get xs k ≡ Some y → slice_get (xs ++ x ∷ []) k ≡ Some y
item_of_more xs x k y at =
    let within = slice_get_within xs k y at in
    let longer : length (xs ++ x ∷ []) ≡ length xs + 1 = length-append xs (x ∷ []) in
    let inside : k < length (xs ++ x ∷ []) = omega arith in
    slice_get-get_or (xs ++ x ∷ []) k 0 inside ∙ ap Some (get_or_append_left xs (x ∷ []) 0 k within ∙ get_or_from_slice_get xs k y 0 at)

module _ (r : Rules) where
  -- a tier that has no room or no tables is early
  early : (entries : List TableData) (before : List ℕ) (tier : ℕ) → HaveTables entries before → IsNotNext r entries tier → IsEarly r before tier
  early entries before tier have why = elim why [
    | inl large ↦ inl large
    | inr not ↦ inr (λ among. not (λ child has. have child (among child has)))
  ]

  -- the tier at a place is early, so the tiers have no order
  pub disordered : (entries : List TableData) (tiers : List ℕ) (k : ℕ) → k < length tiers → HaveTables entries (take k tiers)
      → IsNotNext r entries (slice_index_or tiers k 0) → AreDisordered r tiers
  disordered entries tiers k within have why =
      (k, slice_index_or tiers k 0, slice_get-get_or tiers k 0 within, early entries (take k tiers) (slice_index_or tiers k 0) have why)

  -- tiers without an order have none with one more at their end
  pub disordered_more : (tiers : List ℕ) (tier : ℕ) → AreDisordered r tiers → AreDisordered r (tiers ++ tier ∷ [])
  disordered_more tiers tier (k, t, at, why) =
      let within : k < length tiers = slice_get_within tiers k t at in
      let le : k ≤ length tiers = omega arith in
      (k, t, item_of_more tiers tier k t at, subst (λ (v : List ℕ). IsEarly r v t) (sym (take-append-le k tiers (tier ∷ []) le)) why)

  -- the last tier is early
  pub disordered_last : (entries : List TableData) (tiers : List ℕ) (tier : ℕ) → HaveTables entries tiers → IsNotNext r entries tier
      → AreDisordered r (tiers ++ tier ∷ [])
  disordered_last entries tiers tier have why =
      let longer : length (tiers ++ tier ∷ []) ≡ length tiers + 1 = length-append tiers (tier ∷ []) in
      let inside : length tiers < length (tiers ++ tier ∷ []) = omega arith in (
        length tiers,
        tier,
        slice_get-get_or (tiers ++ tier ∷ []) (length tiers) 0 inside ∙ ap Some (get_or-append_seam tiers tier [] 0),
        subst (λ (v : List ℕ). IsEarly r v tier) (sym (take-append_seam tiers (tier ∷ []))) (early entries tiers tier have why),
      )

  -- in an order of tiers none is early
  pub in_order : (entries : List TableData) (tiers : List ℕ) (k : ℕ) → k < length tiers → ComeChildrenFirst r tiers
      → ((t : ℕ) → Contains tiers t → r.tier_size t ≤ TIER_SIZE) → HaveTables entries (take k tiers)
      → IsNotNext r entries (slice_index_or tiers k 0) → ⊥
  in_order entries tiers k within first small have why = elim why [
    | inl large ↦ let le = small (slice_index_or tiers k 0) (Contains-get_or tiers k 0 within) in omega arith
    | inr not ↦ not (λ child is. have child (first k (slice_index_or tiers k 0) child (slice_get-get_or tiers k 0 within) is))
  ]

module _ (r : Rules) (w : Width) where
  -- there are as many bytes as the records of the tiers have
  pub total : (tiers : List ℕ) (bytes : List ℕ) → AreTrueTiers r w tiers bytes → length bytes ≡ sum (map (room r w) tiers)
  total [] bytes none = ap length none
  total (t ∷ ts) bytes (first, others) =
      let a : length (take (room r w t) bytes) ≡ room r w t = long r w t (take (room r w t) bytes) first in
      let b : length (drop (room r w t) bytes) ≡ sum (map (room r w) ts) = total ts (drop (room r w t) bytes) others in
      let c : length (take (room r w t) bytes ++ drop (room r w t) bytes) ≡ length (take (room r w t) bytes) + length (drop (room r w t) bytes)
      = length-append (take (room r w t) bytes) (drop (room r w t) bytes) in
      let d : length (take (room r w t) bytes ++ drop (room r w t) bytes) ≡ length bytes = ap length (take-append-drop (room r w t) bytes) in
      let e : sum (map (room r w) (t ∷ ts)) ≡ room r w t + sum (map (room r w) ts) = sum_by-cons (λ (n : ℕ). n) (room r w t) (map (room r w) ts) in
      omega arith
