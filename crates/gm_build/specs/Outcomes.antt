-- How a build ends without its tables, and what the store has then.
use Rattle.std.specs.Prelude.{◌≡◌, ℕ, ◌⊎◌, ◌+◌, List, take, slice_get, Some, Result, Ok, Err}
use Rattle.gm_game.specs.declared.limits.TheConstants.{TIERS}
use Rattle.gm_game.specs.Rules.{Rules}
use Rattle.gm_tiers.specs.Orders.{IsOrderFrom}
use Rattle.gm_tierdb.specs.StoreTexts.{Texts, AreSame}
use Rattle.gm_tiers.specs.declared.tier_error.TierError.{TierError}
use Rattle.gm_tiers.specs.declared.tier_error.TierError.TheVariants.{OutOfMemory as NoRoom, TooManyTiers as TooMany, TierTooLarge as TooLarge}
use Rattle.gm_backward.specs.declared.error.SolveError.{SolveError}
use Rattle.gm_backward.specs.declared.error.SolveError.TheVariants.{OutOfMemory as Full, TooFar as Far}
use Rattle.gm_tiers.specs.Reach.{IsReachedFrom}
use Rattle.gm_tiers.specs.Limits.{HasTooMany, AreMoreThan, IsTooLarge}
use Rattle.gm_table.specs.Solving.{IsTooFar}
use Rattle.gm_build.specs.declared.build_error.BuildError.{BuildError}
use Rattle.gm_build.specs.declared.build_error.BuildError.TheVariants.{OutOfMemory, TooFar, StoreFailed, TooManyTiers, TierTooLarge}
use Rattle.gm_build.specs.TrueTexts.{HasText, HaveTexts, KeepsOthers}

-- the build's error for an error of the tier order
abbrev pub of_tier_error : TierError → BuildError
of_tier_error NoRoom = OutOfMemory
of_tier_error TooMany = TooManyTiers
of_tier_error (TooLarge tier) = TierTooLarge tier

-- the build's error for an error of a solve
abbrev pub of_solve_error : SolveError → BuildError
of_solve_error Full = OutOfMemory
of_solve_error (Far tier) = TooFar tier

-- how many failures of the store an answer tells of
abbrev pub failures_in : {T : Type 0} → Result T BuildError → ℕ
failures_in (Ok x) = 0
failures_in (Err OutOfMemory) = 0
failures_in (Err (TooFar tier)) = 0
failures_in (Err (StoreFailed tier)) = 1
failures_in (Err TooManyTiers) = 0
failures_in (Err (TierTooLarge tier)) = 0

-- a tier is not built for this reason
abbrev pub IsTierError : Rules → ℕ → BuildError → Type 0
IsTierError r tier OutOfMemory = Unit {0}
IsTierError r tier (TooFar t) = (t ≡ tier) × IsTooFar r tier
IsTierError r tier (StoreFailed t) = t ≡ tier
IsTierError r tier TooManyTiers = ⊥
IsTierError r tier (TierTooLarge t) = ⊥

-- a tier's entry is not read for this reason
abbrev pub IsReadError : ℕ → BuildError → Type 0
IsReadError tier OutOfMemory = Unit {0}
IsReadError tier (TooFar t) = ⊥
IsReadError tier (StoreFailed t) = t ≡ tier
IsReadError tier TooManyTiers = ⊥
IsReadError tier (TierTooLarge t) = ⊥

-- the tiers that the first one reaches are not built for this reason
abbrev pub IsBuildError : Rules → ℕ → BuildError → Type 0
IsBuildError r first OutOfMemory = Unit {0}
IsBuildError r first (TooFar tier) = IsReachedFrom r first tier × IsTooFar r tier
IsBuildError r first (StoreFailed tier) = IsReachedFrom r first tier
IsBuildError r first TooManyTiers = HasTooMany r first × AreMoreThan r first TIERS
IsBuildError r first (TierTooLarge tier) = IsTooLarge r first tier × IsReachedFrom r first tier

-- the tier's entry is as before, or the text of its true table
abbrev pub MayHaveText : Rules → Texts → Texts → ℕ → Type 0
MayHaveText r old new tier = (new tier ≡ old tier) ⊎ HasText r new tier

-- a build stopped at this tier: those before it in the order have their texts, and no entry has changed after it
pub record StopsAt (r : Rules) (first : ℕ) (old new : Texts) (tier : ℕ) : Type 0 where
  pub tiers : List ℕ
  pub order : IsOrderFrom r first tiers
  pub done : ℕ
  pub next : slice_get tiers done ≡ Some tier
  pub texts : HaveTexts r new (take done tiers)
  pub here : MayHaveText r old new tier
  pub others : KeepsOthers (take (done + 1) tiers) old new

-- what the store has after an error
abbrev pub IsStopped : Rules → ℕ → Texts → Texts → BuildError → Type 0
IsStopped r first old new OutOfMemory = AreSame old new ⊎ ((tier : ℕ) × StopsAt r first old new tier)
IsStopped r first old new (TooFar tier) = StopsAt r first old new tier
IsStopped r first old new (StoreFailed tier) = StopsAt r first old new tier
IsStopped r first old new TooManyTiers = AreSame old new
IsStopped r first old new (TierTooLarge tier) = AreSame old new

-- the numbers of the errors
abbrev pub build_error_number : BuildError → ℕ
build_error_number OutOfMemory = 1
build_error_number (TooFar tier) = 2
build_error_number (StoreFailed tier) = 3
build_error_number TooManyTiers = 4
build_error_number (TierTooLarge tier) = 5
