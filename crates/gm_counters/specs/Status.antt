-- What the delivered children say of a position.
use Rattle.std.specs.Prelude.{◌≡◌, ◌⊎◌, ℕ, List, Some}
use Rattle.std.specs.List.{Contains}
use Rattle.gm_game.specs.declared.position.Position.{Position}
use Rattle.gm_game.specs.declared.position.End.{End}
use Rattle.gm_game.specs.declared.position.Solved.{Solved}
use Rattle.gm_game.specs.Rules.{Rules, at, IsCanonical, IsInner}
use Rattle.gm_game.specs.Records.{from_end}
use Rattle.gm_game.specs.Settling.{IsSettled, IsUndecided}
use Rattle.gm_counters.specs.declared.status.Status.{Status}
use Rattle.gm_counters.specs.declared.status.Status.TheVariants.{Hole, Undecided, Settled}
use Rattle.gm_counters.specs.State.{ShardState, delivered_to}

-- the children of a list, as a kind
abbrev pub In : List Position → Position → Type 0
In d c = Contains d c

-- p has ended, with this value
pub record IsEnded (r : Rules) (p : Position) (x : Solved) : Type 0 where
  pub canonical : IsCanonical r p
  pub ended : End
  pub primitive : r.primitive p ≡ Some ended
  pub value : x ≡ from_end ended

-- the status of a position, by the children d that are delivered to it
abbrev pub HasStatus : Rules → Position → List Position → Status → Type 0
HasStatus r p d Hole = IsCanonical r p → ⊥
HasStatus r p d Undecided = IsInner r p × IsUndecided r p (In d)
HasStatus r p d (Settled x) = IsEnded r p x ⊎ (IsInner r p × IsSettled r p (In d) x.value x.remoteness)

-- the status of an index of a shard
abbrev pub StatusIs : Rules → ShardState → ℕ → Status → Type 0
StatusIs r s index status = HasStatus r (at s.tier index) (delivered_to s index) status
