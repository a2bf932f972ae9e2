-- What an error of a tier says of the build.
use Rattle.gm_build.proofs.Lower.{◌≡◌, ℕ, ◌+◌, inl, inr, Result, Err, refl, sym, subst, arith, Rules, TIERS, Texts, IsBuildError, IsStopped}
use Rattle.std.specs.Result.{IsErrOf}
use Rattle.gm_tiers.specs.Reach.{IsReachedFrom}
use Rattle.gm_build.specs.Outcomes.{of_tier_error, StopsAt, failures_in, IsTierError}
use Rattle.gm_tiers.specs.declared.tier_error.TierError.{TierError}
use Rattle.gm_tiers.specs.Limits.{HasTooMany, AreMoreThan, IsTooLarge}
use Rattle.gm_table.specs.Solving.{IsTooFar}
use Rattle.gm_build.specs.declared.build_error.BuildError.{BuildError}
use Rattle.gm_build.specs.declared.build_error.BuildError.TheVariants.{OutOfMemory, TooFar, StoreFailed, TooManyTiers, TierTooLarge}
use Rattle.gm_tiers.specs.declared.tier_error.TierError.TheVariants.{OutOfMemory as NoMemory, TooManyTiers as TooMany, TierTooLarge as TooLarge}

pub build_error : (r : Rules) (first tier : ℕ) (e : BuildError) → IsReachedFrom r first tier → IsTierError r tier e → IsBuildError r first e
build_error r first tier OutOfMemory reached is = tt
build_error r first tier (TooFar t) reached is = (subst (IsReachedFrom r first) (sym is.0) reached, subst (IsTooFar r) (sym is.0) is.1)
build_error r first tier (StoreFailed t) reached is = subst (IsReachedFrom r first) (sym is) reached
build_error r first tier TooManyTiers reached is = absurd is
build_error r first tier (TierTooLarge t) reached is = absurd is

pub stopped_by : (r : Rules) (first : ℕ) (start now : Texts) (tier : ℕ) (e : BuildError) → StopsAt r first start now tier → IsTierError r tier e
    → IsStopped r first start now e
stopped_by r first start now tier OutOfMemory stops is = inr (tier, stops)
stopped_by r first start now tier (TooFar t) stops is = subst (StopsAt r first start now) (sym is.0) stops
stopped_by r first start now tier (StoreFailed t) stops is = subst (StopsAt r first start now) (sym is) stops
stopped_by r first start now tier TooManyTiers stops is = absurd is
stopped_by r first start now tier (TierTooLarge t) stops is = absurd is

-- what an error of the order says of the build
pub order_error : {T : Type 0} → (r : Rules) (first : ℕ) (m : Result T TierError) → (IsErrOf m TooMany → HasTooMany r first)
    → (IsErrOf m TooMany → AreMoreThan r first TIERS)
    → ((tier : ℕ) → IsErrOf m (TooLarge tier) → IsTooLarge r first tier) → ((tier : ℕ) → IsErrOf m (TooLarge tier) → IsReachedFrom r first tier)
    → (e : TierError) → m ≡ Err e → IsBuildError r first (of_tier_error e)
order_error r first m many more large reached NoMemory is = tt
order_error r first m many more large reached TooMany is = (many is, more is)
order_error r first m many more large reached (TooLarge tier) is = (large tier is, reached tier is)

pub order_stopped : (r : Rules) (first : ℕ) (now : Texts) (e : TierError) → IsStopped r first now now (of_tier_error e)
order_stopped r first now NoMemory = inl (λ tier. refl)
order_stopped r first now TooMany = λ tier. refl
order_stopped r first now (TooLarge tier) = λ t. refl

-- it is no failure of the store
pub order_count : (T : Type 0) (n : ℕ) (e : TierError) → n ≡ n + failures_in {T = T} (Err (of_tier_error e))
order_count T n NoMemory = omega arith
order_count T n TooMany = omega arith
order_count T n (TooLarge tier) = omega arith
