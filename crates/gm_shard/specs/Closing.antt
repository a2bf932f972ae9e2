-- When a level of a shard is closed, by a count of its pairs.
use Rattle.std.specs.Prelude.{◌≡◌, ◌+◌, ◌<◌, Result, Ok, Err, ◌≤◌, Some, length}
use Rattle.gm_game.specs.Rules.{Rules}
use Rattle.gm_frontier.specs.Counts.{ExpectedData}
use Rattle.gm_game.specs.declared.limits.TheConstants.{REMOTENESS}
use Rattle.gm_shard.specs.declared.short.Short.{Short}
use Rattle.gm_counters.specs.State.{ShardState, pairs_in}
use Rattle.gm_counters.specs.Steps.{IsWhole, at_next_level, place_of}

-- what a close answers, and the state that it leaves
abbrev pub Closes : Rules → ExpectedData → ShardState → ShardState → Result (Unit {0}) Short → Type 0
Closes r e s t (Ok _) = (t ≡ at_next_level s) × IsWhole r s
Closes r e s t (Err short) = (t ≡ s) × (IsWhole r s → ⊥) × (short.delivered ≡ pairs_in s) × (short.expected ≡ e.number) × (short.delivered < short.expected)

-- the Expected is for this tier and range, and the last level that it added is the present one
pub record IsFor (e : ExpectedData) (s : ShardState) : Type 0 where
  pub tier : e.tier ≡ s.tier
  pub lo : e.lo ≡ s.lo
  pub hi : e.hi ≡ s.lo + length s.delivered
  pub last : e.last ≡ Some (place_of s)

-- the level can be closed
pub record CanClose (r : Rules) (s : ShardState) (e : ExpectedData) : Type 0 where
  pub fits : s.level ≤ REMOTENESS
  pub is_for : IsFor e s
  pub whole : IsWhole r s
