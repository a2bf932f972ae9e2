-- The output of an answer about all of a game after a fault, and the tables for it.
use Rattle.gamesman.proofs.Lower.{◌≡◌, ℕ, true, false, inl, inr, List, Option, None, Some, Result, Ok, Err, refl, sym, subst, ◌∙◌, Contains, Rules, PositionSearch, Fault, NoSuchGame, NoSuchPosition, NoSuchPositionInLine, NoSuchGameInLine, NoSuchTier, NoSuchIndex, NotLegal, NotCanonical, OutOfMemory, NotBuilt, AnotherGames, InputFailed, OutputFailed, OutputClosed, TooMuchInput, EngineNotRead, NotAnEngine, IsCutOff, IsUnbuilt, IsMemoryFault, IsPut, GameSpec, IsUnsearched, first_of}
use Rattle.gamesman.specs.Finds.{IsFoundOf, IsFoundSoFar, IsLeft, AreFoundWith}
use Rattle.std.proofs.Common.{nat_eq, eqb-true, eq-eqb}
use Rattle.std.specs.List.{list_any}
use Rattle.gm_game.proofs.Lists.{any_in, any_from}
use Rattle.gamesman.specs.Told.{IsNoTier, IsNoPlace, IsUnknown, IsTold}
use Rattle.gamesman.proofs.Cut.{kept_cut, cut_off, unbuilt_cut}

module _ (IsText : List ℕ → Type 0) (o : Option (List ℕ)) where
  pub memory_cut : (fault : Fault) → IsMemoryFault fault → IsCutOff IsText o o fault
  memory_cut fault is = kept_cut IsText o IsMemoryFault (λ n. n) (λ n. n) fault is

  unknown_cut : (r : Rules) (tier : ℕ) (fault : Fault) → IsUnknown r tier fault → IsCutOff IsText o o fault
  unknown_cut r tier fault (inl is) = unbuilt_cut IsText o r r.initial.tier fault is
  unknown_cut r tier fault (inr is) = kept_cut IsText o (IsNoTier r tier) (λ n. n) (λ n. n) fault is

  unsearched_cut : (r : Rules) (tier : Option ℕ) (fault : Fault) → IsUnsearched r tier fault → IsCutOff IsText o o fault
  unsearched_cut r None fault (inl is) = absurd is
  unsearched_cut r (Some tier) fault (inl is) = unknown_cut r tier fault is
  unsearched_cut r tier fault (inr is) = unbuilt_cut IsText o r (first_of r tier) fault is

  module _ (IsWhy : Fault → Type 0) (fault : Fault) (why : IsWhy fault) where
    -- nothing is written if memory is refused
    pub memory_told : IsMemoryFault fault → IsTold IsText IsWhy o o (Err fault)
    memory_told is = record { written = memory_cut fault is; refused = inr why }

    -- nothing is written if no table is built
    pub unbuilt_told : (r : Rules) (first : ℕ) → IsUnbuilt r first fault → IsTold IsText IsWhy o o (Err fault)
    unbuilt_told r first is = record { written = unbuilt_cut IsText o r first fault is; refused = inr why }

    -- nothing is written if the tier is not known to be one of the game
    pub unknown_told : (r : Rules) (tier : ℕ) → IsUnknown r tier fault → IsTold IsText IsWhy o o (Err fault)
    unknown_told r tier is = record { written = unknown_cut r tier fault is; refused = inr why }

    -- nothing is written if a place has no canonical position
    pub no_place_told : (r : Rules) (tier index : ℕ) → IsNoPlace r tier index fault → IsTold IsText IsWhy o o (Err fault)
    no_place_told r tier index is = record { written = kept_cut IsText o (IsNoPlace r tier index) (λ n. n) (λ n. n) fault is; refused = inr why }

  -- nothing is written if there is no table
  pub unsearched_told : (r : Rules) (tier : Option ℕ) (fault : Fault) → IsUnsearched r tier fault → IsTold IsText (IsUnsearched r tier) o o (Err fault)
  unsearched_told r tier fault is = record { written = unsearched_cut r tier fault is; refused = inr is }

-- refused memory is a reason why tables are not built
pub memory_unbuilt : (r : Rules) (first : ℕ) (fault : Fault) → IsMemoryFault fault → IsUnbuilt r first fault
memory_unbuilt r first NoSuchGame is = absurd is
memory_unbuilt r first NoSuchPosition is = absurd is
memory_unbuilt r first (NoSuchPositionInLine line) is = absurd is
memory_unbuilt r first (NoSuchGameInLine line) is = absurd is
memory_unbuilt r first (NoSuchTier t) is = absurd is
memory_unbuilt r first (NoSuchIndex t i) is = absurd is
memory_unbuilt r first (NotLegal t i) is = absurd is
memory_unbuilt r first (NotCanonical t i) is = absurd is
memory_unbuilt r first (OutOfMemory error) is = tt
memory_unbuilt r first (NotBuilt error) is = absurd is
memory_unbuilt r first (AnotherGames t) is = absurd is
memory_unbuilt r first InputFailed is = absurd is
memory_unbuilt r first OutputFailed is = absurd is
memory_unbuilt r first OutputClosed is = absurd is
memory_unbuilt r first TooMuchInput is = absurd is
memory_unbuilt r first EngineNotRead is = absurd is
memory_unbuilt r first NotAnEngine is = absurd is

-- a text of the right kind that is put is an answer
pub put_told : (IsText : List ℕ → Type 0) (IsWhy : Fault → Type 0) (text : List ℕ) (before after : Option (List ℕ)) (result : Result ℕ Fault) → IsText text
    → IsPut text before after result
    → IsTold IsText IsWhy before after result
put_told IsText IsWhy text before after (Ok status) is (done, put) = record { written = (done, (text, is, put)); refused = tt }
put_told IsText IsWhy text before after (Err fault) is (failed, part) = record {
  written = cut_off IsText before after fault text failed is part;
  refused =
      inl failed;
}

-- a tier that a test finds in a list is there, and one that it doesn't find is not
pub listed : (tiers : List ℕ) (tier : ℕ) → list_any (λ y. nat_eq y tier) tiers ≡ true → Contains tiers tier
listed tiers tier e = let (y, has, s) = any_in (λ (y : ℕ). nat_eq y tier) tiers e in subst (Contains tiers) (eqb-true y tier s) has

pub unlisted : (tiers : List ℕ) (tier : ℕ) → list_any (λ y. nat_eq y tier) tiers ≡ false → Contains tiers tier → ⊥
unlisted tiers tier e has = let f : true ≡ false = sym (any_from (λ (y : ℕ). nat_eq y tier) tiers tier has (eq-eqb tier tier refl)) ∙ e in absurd (cc)

-- nothing is written tier by tier if nothing is written at all
left_from : (IsText : List ℕ → Type 0) (o : Option (List ℕ)) (fault : Fault) → IsCutOff (λ text. ⊥) o o fault → IsLeft IsText o o fault
left_from IsText o OutputFailed is = absurd is.1
left_from IsText o OutputClosed is = absurd is.1
left_from IsText o (OutOfMemory error) is = inl is
left_from IsText o NoSuchGame is = is
left_from IsText o NoSuchPosition is = is
left_from IsText o (NoSuchPositionInLine line) is = is
left_from IsText o (NoSuchGameInLine line) is = is
left_from IsText o (NoSuchTier t) is = is
left_from IsText o (NoSuchIndex t i) is = is
left_from IsText o (NotLegal t i) is = is
left_from IsText o (NotCanonical t i) is = is
left_from IsText o (NotBuilt error) is = is
left_from IsText o (AnotherGames t) is = is
left_from IsText o InputFailed is = is
left_from IsText o TooMuchInput is = is
left_from IsText o EngineNotRead is = is
left_from IsText o NotAnEngine is = is

-- the output of `find` if there is no table
pub find_unsearched : (limit : Option ℕ) (g : GameSpec) (asked : PositionSearch) (o : Option (List ℕ)) (fault : Fault) → IsUnsearched g.rules asked.tier fault
    → AreFoundWith limit g asked (IsUnsearched g.rules asked.tier) o o (Err fault)
find_unsearched (Some limit) g asked o fault is =
    record { written = left_from (IsFoundSoFar g asked) o fault (unsearched_cut (λ text. ⊥) o g.rules asked.tier fault is); refused = inr is }
find_unsearched None g asked o fault is = unsearched_told (IsFoundOf g asked) o g.rules asked.tier fault is
