-- Runs of events over the states of shards, in any order of the events.
use Rattle.std.specs.Prelude.{◌≡◌, ℕ, suc, ◌⊎◌, List, [], ◌∷◌, Some, slice_get, slice_set}
use Rattle.gm_game.specs.Rules.{Rules}
use Rattle.gm_counters.specs.State.{ShardState, with_pair}
use Rattle.gm_counters.specs.Steps.{CanDeliver, CanTurn, at_next_level, first_ties}
use Rattle.gm_shard.specs.Closing.{CanClose}
use Rattle.gm_shard.specs.declared.event.Event.{Event}
use Rattle.gm_shard.specs.declared.event.Event.TheVariants.{Deliver, Close, NextPhase}

-- the shard that an event names
abbrev pub shard_of : {G : Type 0} → Event G → ℕ
shard_of (Deliver k note parent) = k
shard_of (Close k expected) = k
shard_of (NextPhase k last) = k

-- an event can be applied to the state s, and leaves t
abbrev pub Takes : {G : Type 0} → Rules → Event G → ShardState → ShardState → Type 0
Takes r (Deliver k note parent) s t = CanDeliver r s note.position parent × (t ≡ with_pair s note.position parent)
Takes r (Close k expected) s t = CanClose r s expected × (t ≡ at_next_level s)
Takes r (NextPhase k last) s t = CanTurn s last × (t ≡ first_ties s)

-- an event changes the state of the shard that it names
abbrev pub Changes : {G : Type 0} → Rules → Event G → List ShardState → List ShardState → Type 0
Changes r e ss us = (s : ShardState) × (t : ShardState) × (slice_get ss (shard_of e) ≡ Some s) × Takes r e s t × (us ≡ slice_set ss (shard_of e) t)

-- n of the events change a state, and the others change nothing; us are the states after all of them
abbrev pub Runs : {G : Type 0} → Rules → List ShardState → List (Event G) → List ShardState → ℕ → Type 0
Runs r ss [] us n = (us ≡ ss) × (n ≡ 0)
Runs r ss (e ∷ es) us n =
    ((mid : List ShardState) × (m : ℕ) × Changes r e ss mid × Runs r mid es us m × (n ≡ suc m))
    ⊎ (((mid : List ShardState) → Changes r e ss mid → ⊥) × Runs r ss es us n)
