-- The best move of a position.
use Rattle.std.specs.Prelude.{◌≡◌, ◌≢◌, ℕ, ◌<◌, ◌≤◌, ◌⊎◌, List, Option, None, Some}
use Rattle.std.specs.List.{Contains}
use Rattle.gm_game.specs.declared.position.Position.{Position}
use Rattle.gm_game.specs.declared.position.Value.{Value}
use Rattle.gm_game.specs.declared.position.Value.TheVariants.{Lose, Draw, Tie, Win}
use Rattle.gm_game.specs.Rules.{Rules}
use Rattle.gm_game.specs.Values.{HasValue}
use Rattle.gm_play.specs.declared.best_moves.Choice.{Choice}

-- the value of the result of the best move, for a position of this value
abbrev pub wanted_from : Value → Value
wanted_from Lose = Win
wanted_from Draw = Draw
wanted_from Tie = Tie
wanted_from Win = Lose

-- from a position with this value, a result of the first remoteness is better than one of the second: a win and a tie are to be near, and a loss far
abbrev pub IsNearer : Value → ℕ → ℕ → Type 0
IsNearer Lose k than = than < k
IsNearer Draw k than = ⊥
IsNearer Tie k than = k < than
IsNearer Win k than = k < than

-- from a position with this value, a result of the first remoteness is no worse than one of the second
abbrev pub IsNoFarther : Value → ℕ → ℕ → Type 0
IsNoFarther Lose k than = than ≤ k
IsNoFarther Draw k than = Unit {0}
IsNoFarther Tie k than = k ≤ than
IsNoFarther Win k than = k ≤ than

-- the move is one of these, and its result has the wanted value with this remoteness; no other of the moves has a better result, and the move has the least
-- number among equals
pub record IsBestOf (r : Rules) (p : Position) (value : Value) (moves : List ℕ) (m remoteness : ℕ) : Type 0 where
  pub there : Contains moves m
  pub reaches : HasValue r (r.play p m) (wanted_from value) remoteness
  pub no_better : (n k : ℕ) → Contains moves n → HasValue r (r.play p n) (wanted_from value) k → IsNoFarther value remoteness k
  pub first : (n : ℕ) → Contains moves n → HasValue r (r.play p n) (wanted_from value) remoteness → m ≤ n

-- the best of these moves, if the result of one has the wanted value
abbrev pub IsChoice : Rules → Position → Value → List ℕ → Option Choice → Type 0
IsChoice r p value moves None = (n k : ℕ) → Contains moves n → HasValue r (r.play p n) (wanted_from value) k → ⊥
IsChoice r p value moves (Some c) = IsBestOf r p value moves c.number c.remoteness

-- which one is kept of a choice and a move whose result has the wanted value with this remoteness
abbrev pub Chooses : Value → Option Choice → ℕ → ℕ → Choice → Type 0
Chooses value None m k c = c ≡ record { number = m; remoteness = k }
Chooses value (Some old) m k c =
    (IsNearer value k old.remoteness × (c ≡ record { number = m; remoteness = k })) ⊎ ((IsNearer value k old.remoteness → ⊥) × (c ≡ old))

-- the choice after one more move
abbrev pub Considers : Rules → Position → Value → ℕ → Option Choice → Option Choice → Type 0
Considers r p value m best new = ((new ≡ best) × ((k : ℕ) → HasValue r (r.play p m) (wanted_from value) k → ⊥)) ⊎
    ((k : ℕ) × (c : Choice) × (new ≡ Some c) × HasValue r (r.play p m) (wanted_from value) k × Chooses value best m k c)

-- the best move of a position of this value
pub record IsBest (r : Rules) (p : Position) (m : ℕ) : Type 0 where
  pub value : Value
  pub own : ℕ
  pub is_value : HasValue r p value own
  pub remoteness : ℕ
  pub best : IsBestOf r p value (r.moves p) m remoteness

-- the best move of a position; none if the game has ended
abbrev pub IsBestMove : Rules → Position → Option ℕ → Type 0
IsBestMove r p None = r.primitive p ≢ None
IsBestMove r p (Some m) = (r.primitive p ≡ None) × IsBest r p m
