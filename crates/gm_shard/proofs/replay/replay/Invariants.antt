use Rattle.gm_shard.proofs.Lower.{ℕ, ◌<◌, ◌≤◌, drop, ShardState, IsGood}
use Rattle.std.proofs.Common.{slice_index_or}
use Rattle.gm_shard.proofs.RunLemmas.{Leads}
use Rattle.gm_shard.proofs.replay.replay.Given as goal

abbrev pub invariant-loop-event : goal.invariant-loop-event
invariant-loop-event g l = Leads g.G.Game.rules l.initial.shards l.events l.shards (drop l.event-index l.events) l.applied × (l.applied ≤ l.event-index)

abbrev pub invariant-loop-shard : goal.invariant-loop-shard
invariant-loop-shard g l = (k : ℕ) (d : ShardState) → k < l.shard-index → IsGood g.G.Game.rules (slice_index_or l.shard-items k d)
