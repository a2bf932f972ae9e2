-- How a shard begins.
use Rattle.std.specs.Prelude.{◌≡◌, ℕ, ◌+◌, List, [], Some, length, slice_get, replicate}
use Rattle.gm_game.specs.declared.position.Position.{Position}
use Rattle.gm_game.specs.declared.position.Phase.TheVariants.{WinLose}
use Rattle.gm_game.specs.Rules.{Rules, at, IsCanonical, IsInner}
use Rattle.gm_game.specs.Children.{canonical_children_of}
use Rattle.gm_game.specs.Records.{from_end}
use Rattle.gm_counters.specs.declared.status.Start.{Start}
use Rattle.gm_counters.specs.declared.status.Start.TheVariants.{Hole, Ended, Inner}
use Rattle.gm_counters.specs.declared.status.Status.{Status}
use Rattle.gm_counters.specs.declared.status.Status.TheVariants.{Hole as NoPosition, Undecided, Settled}
use Rattle.gm_counters.specs.State.{ShardState}

-- what a position is at the start
abbrev pub IsStart : Rules → Position → Start → Type 0
IsStart r p Hole = IsCanonical r p → ⊥
IsStart r p (Ended e) = IsCanonical r p × (r.primitive p ≡ Some e)
IsStart r p (Inner children) = IsInner r p × (children ≡ length (canonical_children_of r p))

-- the status that such a position begins with
abbrev pub first_status : Start → Status
first_status Hole = NoPosition
first_status (Ended e) = Settled (from_end e)
first_status (Inner children) = Undecided

-- the counter that such a position begins with
abbrev pub first_left : Start → ℕ
first_left Hole = 0
first_left (Ended e) = 0
first_left (Inner children) = children

-- the items are the starts of the indexes from lo on
abbrev pub AreStarts : Rules → ℕ → ℕ → List Start → Type 0
AreStarts r tier lo starts = (k : ℕ) (x : Start) → slice_get starts k ≡ Some x → IsStart r (at tier (lo + k)) x

-- a shard of n indexes with no pair
abbrev pub first_state : ℕ → ℕ → ℕ → ShardState
first_state tier lo n = record { tier = tier; lo = lo; phase = WinLose; level = 0; delivered = replicate n [] }
