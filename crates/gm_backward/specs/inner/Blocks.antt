-- A tier in blocks of 512 indexes that are dealt out to 32 classes in turn.
use Rattle.std.specs.Prelude.{◌≡◌, ℕ, ◌+◌, ◌*◌, suc, min, List, Vec, Result, IfOk, length}
use Rattle.std.specs.declared.alloc.AllocError.{AllocError}
use Rattle.std.specs.declared.alloc.Global.{Global}
use Rattle.gm_game.specs.Rules.{Rules}
use Rattle.gm_counters.specs.inner.Begin.{AreStarts}
use Rattle.gm_table.specs.inner.Dealing.{block_in}
use Rattle.std.specs.List.{AllZip, range_with_len}
use Rattle.gm_counters.specs.declared.status.Start.{Start}

-- what the indexes of block k are at the start
pub record IsPart (r : Rules) (tier k : ℕ) (starts : List Start) : Type 0 where
  pub long : min (k * 512) (r.tier_size tier) + length starts ≡ min (suc k * 512) (r.tier_size tier)
  pub starts_are : AreStarts r tier (min (k * 512) (r.tier_size tier)) starts

-- what is found at each place are the starts of the block that belongs to it, unless memory ran out, if each class has that many blocks
pub record ArePartsOf (r : Rules) (tier rows : ℕ) (found : List (Result (Vec Start Global) AllocError)) : Type 0 where
  pub many : length found ≡ rows * 32
  pub each : AllZip (λ place x. IfOk x (λ part. IsPart r tier (block_in rows place) part.items)) (range_with_len 0 (length found)) found
