-- The two sides, and what a position is worth to the computer's side.
use Rattle.std.specs.Prelude.{◌≡◌, ℕ, ◌⊎◌, Some}
use Rattle.gm_game.specs.declared.position.Position.{Position}
use Rattle.gm_game.specs.declared.position.Value.TheVariants.{Lose, Draw, Tie, Win}
use Rattle.gm_game.specs.Rules.{Rules}
use Rattle.gm_game.specs.Values.{HasValue}
use Rattle.gm_game.specs.declared.position.End.TheVariants.{Lose as EndLose, Win as EndWin}
use Rattle.gm_play.specs.declared.sides.Side.{Side}
use Rattle.gm_play.specs.declared.sides.Side.TheVariants.{You, Computer}

abbrev pub other : Side → Side
other You = Computer
other Computer = You

-- with this side to move, the computer's side wins in n moves
abbrev pub IsWonIn : Rules → Position → Side → ℕ → Type 0
IsWonIn r p Computer n = HasValue r p Win n
IsWonIn r p You n = HasValue r p Lose n

-- neither side wins
abbrev pub IsEven : Rules → Position → Type 0
IsEven r p = (n : ℕ) × (HasValue r p Tie n ⊎ HasValue r p Draw n)

-- with this side to move, the game has ended and the computer's side has won
abbrev pub HasWon : Rules → Position → Side → Type 0
HasWon r p Computer = r.primitive p ≡ Some EndWin
HasWon r p You = r.primitive p ≡ Some EndLose

-- with this side to move, the game has ended and the computer's side has lost
abbrev pub HasLost : Rules → Position → Side → Type 0
HasLost r p Computer = r.primitive p ≡ Some EndLose
HasLost r p You = r.primitive p ≡ Some EndWin
