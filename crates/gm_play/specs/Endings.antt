-- Who wins a game that has ended, and the line that says so.
use Rattle.std.specs.Prelude.{ℕ, List, codes, Option, None, Some}
use Rattle.gm_game.specs.declared.position.End.{End}
use Rattle.gm_game.specs.declared.position.End.TheVariants.{Lose as EndLose, Tie as EndTie, Win as EndWin}
use Rattle.gm_play.specs.declared.sides.Side.{Side}
use Rattle.gm_play.specs.declared.sides.Side.TheVariants.{You, Computer}
use Rattle.gm_play.specs.Sides.{other}

-- who wins, by how the game has ended for the side to move: neither side in a tie
abbrev pub winner : Side → End → Option Side
winner s EndTie = None
winner s EndLose = Some (other s)
winner s EndWin = Some s

abbrev pub over_line : Option Side → List ℕ
over_line None = codes "over: tie\n"
over_line (Some You) = codes "over: you win\n"
over_line (Some Computer) = codes "over: computer wins\n"

-- the line about the end of a game, with this side to move
abbrev pub over : Side → End → List ℕ
over s e = over_line (winner s e)
