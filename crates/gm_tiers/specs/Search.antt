-- The search for tiers, step by step: what it answers is determined by the game.
use Rattle.std.specs.Prelude.{◌≡◌, ℕ, zero, suc, ◌⊎◌, List, [], ◌∷◌, ◌++◌, length, nat_eq, nat_lt, nat_le, if◌then◌else◌, None, Some, slice_get, Result, Ok, Err}
use Rattle.std.specs.List.{list_any}
use Rattle.gm_game.specs.declared.limits.TheConstants.{TIER_SIZE, TIERS}
use Rattle.gm_game.specs.Rules.{Rules}
use Rattle.gm_tiers.specs.declared.tier_error.TierError.{TierError}
use Rattle.gm_tiers.specs.declared.tier_error.TierError.TheVariants.{OutOfMemory, TooManyTiers, TierTooLarge}

-- the tiers that are found, in the order in which they are found, or why the search has ended
abbrev pub Search : Type 0
Search = Result (List ℕ) TierError

-- a search comes to a tier: one that is new is tested for its size, and then there must be room for it
abbrev pub comes_to : Rules → Search → ℕ → Search
comes_to r (Err e) t = Err e
comes_to r (Ok found) t =
    if list_any (nat_eq t) found then Ok found
    else (if nat_lt TIER_SIZE (r.tier_size t) then Err (TierTooLarge t)
    else (if nat_le TIERS (length found) then Err TooManyTiers else Ok (found ++ t ∷ [])))

-- the search comes to each of these tiers in turn
abbrev pub comes_to_all : Rules → Search → List ℕ → Search
comes_to_all r s [] = s
comes_to_all r s (t ∷ ts) = comes_to_all r (comes_to r s t) ts

-- the search comes to the child tiers of the tier at this place, by ascending number
abbrev pub comes_to_children : Rules → ℕ → Search → Search
comes_to_children r k (Err e) = Err e
comes_to_children r k (Ok found) = elim (slice_get found k) [ None ↦ Ok found | Some t ↦ comes_to_all r (Ok found) (r.child_tiers t) ]

-- the search comes to the child tiers of n tiers, from this place on, one after another
abbrev pub goes_through : Rules → ℕ → ℕ → Search → Search
goes_through r zero k s = s
goes_through r (suc n) k s = goes_through r n (suc k) (comes_to_children r k s)

-- the search from the first tier, which goes through as many places as there may be tiers
abbrev pub search_of : Rules → ℕ → Search
search_of r first = goes_through r TIERS 0 (comes_to r (Ok []) first)

-- an error that is answered is the one that the search ends with, unless memory has run out
abbrev pub EndsWith : Search → TierError → Type 0
EndsWith s e = (e ≡ OutOfMemory) ⊎ (s ≡ Err e)

-- a search answers the tiers that are found, or refuses as it ends
abbrev pub Answers : {T : Type 0} → Result T TierError → Search → (T → List ℕ) → Type 0
Answers (Ok x) s keys = s ≡ Ok (keys x)
Answers (Err e) s keys = EndsWith s e
