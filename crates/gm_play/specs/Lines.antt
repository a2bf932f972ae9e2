-- Lines of play: the computer plays its best moves, the other side replies.
use Rattle.std.specs.Prelude.{◌≡◌, ◌≢◌, ℕ, ◌+◌, ◌≤◌, ◌⊎◌, List, [], ◌∷◌, length, Option, None, Some}
use Rattle.std.specs.List.{Contains}
use Rattle.gm_game.specs.declared.position.Position.{Position}
use Rattle.gm_game.specs.Rules.{Rules}
use Rattle.gm_play.specs.declared.sides.Side.{Side}
use Rattle.gm_play.specs.declared.sides.Side.TheVariants.{You, Computer}
use Rattle.gm_play.specs.declared.play_line.PlayLine.{PlayLine}
use Rattle.gm_play.specs.BestMoves.{IsBestMove}
use Rattle.gm_play.specs.Sides.{other, HasWon}

-- the position and the side to move, after these moves
abbrev pub position_after : Rules → Position → List ℕ → Position
position_after r p [] = p
position_after r p (m ∷ ms) = position_after r (r.play p m) ms

abbrev pub side_after : Side → List ℕ → Side
side_after s [] = s
side_after s (m ∷ ms) = side_after (other s) ms

-- these moves are a line from p: the computer plays the best move, the other side the next reply, until the game ends or no reply remains
abbrev pub IsLine : Rules → Position → Side → List ℕ → List ℕ → Type 0
IsLine r p s replies [] = (r.primitive p ≢ None) ⊎ ((s ≡ You) × (replies ≡ []))
IsLine r p Computer replies (m ∷ ms) = IsBestMove r p (Some m) × IsLine r (r.play p m) You replies ms
IsLine r p You [] (m ∷ ms) = ⊥
IsLine r p You (reply ∷ replies) (m ∷ ms) = (reply ≡ m) × Contains (r.moves p) m × IsLine r (r.play p m) Computer replies ms

-- the end of these moves
pub record LeadsTo (r : Rules) (p : Position) (s : Side) (moves : List ℕ) (end : PlayLine) : Type 0 where
  pub position : end.position ≡ position_after r p moves
  pub side : end.side ≡ side_after s moves
  pub number : end.moves ≡ length moves

-- a line of play with these replies leads to this end
abbrev pub IsLinePlayed : Rules → Position → Side → List ℕ → PlayLine → Type 0
IsLinePlayed r p s replies end = (moves : List ℕ) × IsLine r p s replies moves × LeadsTo r p s moves end

-- no more than n moves were played, and if the game has ended, the computer's side has won
abbrev pub WinsWithin : Rules → ℕ → PlayLine → Type 0
WinsWithin r n end = (end.moves ≤ n) × (r.primitive end.position ≢ None → HasWon r end.position end.side)

-- a line with one more move
abbrev pub one_more : Rules → PlayLine → ℕ → PlayLine
one_more r line m = record { position = r.play line.position m; side = other line.side; moves = line.moves + 1 }

-- the line with the computer's move if it is the computer's turn and the game goes on, and otherwise unchanged
abbrev pub IsAfterComputersTurn : Rules → Side → PlayLine → PlayLine → Type 0
IsAfterComputersTurn r You old new = new ≡ old
IsAfterComputersTurn r Computer old new = ((r.primitive old.position ≢ None) × (new ≡ old)) ⊎
    ((m : ℕ) × IsBestMove r old.position (Some m) × (new ≡ one_more r old m))

-- the reply, if it is a move
abbrev pub IsReplied : Rules → PlayLine → ℕ → Option PlayLine → Type 0
IsReplied r old reply None = Contains (r.moves old.position) reply → ⊥
IsReplied r old reply (Some new) = Contains (r.moves old.position) reply × (new ≡ one_more r old reply)
