-- The limits of a plan.
use Rattle.std.specs.Prelude.{ℕ, ◌<◌, ◌≤◌}
use Rattle.gm_backward.specs.declared.plan.TheConstants.{WORKERS, SHARDS, PIECE}

pub record ArePlanNumbers (workers shards piece : ℕ) : Type 0 where
  pub some_workers : 0 < workers
  pub few_workers : workers ≤ WORKERS
  pub some_shards : 0 < shards
  pub few_shards : shards ≤ SHARDS
  pub some_notes : 0 < piece
  pub few_notes : piece ≤ PIECE
