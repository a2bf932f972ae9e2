-- Properties of the course of a game for the computer's side.
use Rattle.std.specs.Prelude.{◌≡◌, ◌≢◌, ℕ, ◌≤◌, Some, IfSome}
use Rattle.gm_play.specs.declared.sides.Side.TheVariants.{You, Computer}
use Rattle.gm_play.specs.Dialogue.{Course}

-- at most n moves are played, and if the game ends, the computer wins
abbrev pub IsWonCourse : ℕ → Course → Type 0
IsWonCourse n c = (c.moves ≤ n) × IfSome c.ending (λ w. w ≡ Some Computer)

-- the person doesn't win
abbrev pub IsUnlostCourse : Course → Type 0
IsUnlostCourse c = IfSome c.ending (λ w. w ≢ Some You)
