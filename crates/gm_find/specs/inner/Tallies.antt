-- The least and the sum of some numbers, while they are counted.
use Rattle.std.specs.Prelude.{◌≡◌, ◌≢◌, ℕ, ◌<◌, ◌≤◌, List, [], length, Option, None, Some}
use Rattle.gm_game.specs.declared.position.Position.{Position}
use Rattle.gm_game.specs.declared.position.Value.{Value}
use Rattle.gm_game.specs.declared.position.Value.TheVariants.{Draw}
use Rattle.gm_game.specs.Rules.{Rules}
use Rattle.gm_game.specs.Values.{HasValue}
use Rattle.gm_find.specs.declared.along.Tally.{Tally}
use Rattle.gm_find.specs.Tries.{IsSolutionOf, AreTurnsAfter, least_turn, total_of}

-- the least and the sum of these numbers; none if there are no numbers
abbrev pub AreTallied : List ℕ → Option Tally → Type 0
AreTallied ts None = ts ≡ []
AreTallied ts (Some x) = (0 < length ts) × (x.least ≡ least_turn ts) × (x.total ≡ total_of ts)

-- the sum is at most n
abbrev pub IsSmall : ℕ → Option Tally → Type 0
IsSmall n None = Unit {0}
IsSmall n (Some x) = x.total ≤ n

-- best play from p ends the game, after n moves
abbrev pub HasEnd : Rules → Position → ℕ → Type 0
HasEnd r p n = (v : Value) × (v ≢ Draw) × HasValue r p v n

-- the other side is to move at q, and along its best play there are so many tries at the turns of the side that moved before
abbrev pub AreAfter : Rules → Position → List ℕ → Type 0
AreAfter r q ts = (ms : List ℕ) × IsSolutionOf r q ms × AreTurnsAfter r q ms ts
