-- What was done with a tier, and the work that this makes.
use Rattle.std.specs.Prelude.{ℕ, ◌+◌, ◌^◌, ◌<◌, ◌≤◌}
use Rattle.gm_game.specs.Rules.{Rules}
use Rattle.gm_tierdb.specs.StoreTexts.{Texts}
use Rattle.gm_table.specs.Solving.{AreDeliveries}
use Rattle.gm_build.specs.TrueTexts.{HasText, HasOldText}
use Rattle.gm_build.specs.declared.ahead.Ahead.{Ahead}
use Rattle.gm_build.specs.declared.ahead.Ahead.TheVariants.{Nothing, Read, Done}
use Rattle.gm_build.specs.declared.tier.TierOutcome.{TierOutcome}
use Rattle.gm_build.specs.declared.tier.TierOutcome.TheVariants.{Reused, Migrated, Solved}
use Rattle.gm_build.specs.declared.work.Work.{Work}

-- what is done with the tier, where the tiers of the one kind are reused, and those of the other migrated
abbrev pub IsDoneBy : (ℕ → Type 0) → (ℕ → Type 0) → ℕ → TierOutcome → Type 0
IsDoneBy IsReused IsMigrated tier Reused = IsReused tier × (IsMigrated tier → ⊥)
IsDoneBy IsReused IsMigrated tier Migrated = IsMigrated tier × (IsReused tier → ⊥)
IsDoneBy IsReused IsMigrated tier (Solved report) = (IsReused tier → ⊥) × (IsMigrated tier → ⊥)

-- what is done with the tier, by the entry that it had
abbrev pub IsStep : Rules → Texts → ℕ → TierOutcome → Type 0
IsStep r texts = IsDoneBy (HasText r texts) (HasOldText r texts)

-- how much work that took
abbrev pub IsStepWork : Rules → ℕ → TierOutcome → Type 0
IsStepWork r tier Reused = Unit {0}
IsStepWork r tier Migrated = Unit {0}
IsStepWork r tier (Solved report) = AreDeliveries r tier report.deliveries × (report.by_hand ≤ report.deliveries)

-- what was done for a tier before its turn: the work of the table, if there is one
abbrev pub IsAhead : {G : Type 0} → Rules → Ahead G → Type 0
IsAhead r Nothing = Unit {0}
IsAhead r Read = Unit {0}
IsAhead r (Done table report) = IsStepWork r table.tier (Solved report)

-- these numbers of tiers that were solved, reused and migrated, of deliveries, and of those by hand
abbrev pub work_of : ℕ → ℕ → ℕ → ℕ → ℕ → Work
work_of s r m d h = record { solved = s; reused = r; migrated = m; deliveries = d; by_hand = h }

-- nothing is done
abbrev pub no_work : Work
no_work = work_of 0 0 0 0 0

-- the work with one more tier
abbrev pub with_tier : Work → TierOutcome → Work
with_tier w Reused = work_of w.solved (w.reused + 1) w.migrated w.deliveries w.by_hand
with_tier w Migrated = work_of w.solved w.reused (w.migrated + 1) w.deliveries w.by_hand
with_tier w (Solved report) = work_of (w.solved + 1) w.reused w.migrated (w.deliveries + report.deliveries) (w.by_hand + report.by_hand)

-- each number fits in 64 bits
pub record Fits64 (w : Work) : Type 0 where
  pub solved : w.solved < 2 ^ 64
  pub reused : w.reused < 2 ^ 64
  pub migrated : w.migrated < 2 ^ 64
  pub deliveries : w.deliveries < 2 ^ 64
  pub by_hand : w.by_hand < 2 ^ 64
