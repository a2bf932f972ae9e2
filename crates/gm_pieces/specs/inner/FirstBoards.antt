-- The first board of a range of indexes that no symmetric one precedes.
use Rattle.std.specs.Prelude.{◌≡◌, ℕ, Option, None, Some}
use Rattle.gm_game.specs.Boards.{board_of}
use Rattle.gm_game.specs.Rules.{at, IsFirstCanonical}
use Rattle.gm_pieces.specs.MoveGames.{MoveGame, board_game, move_rules}

-- the first canonical legal position of the tier from lo up to hi, with its board, of which the rules see its cells; or there is none
abbrev pub IsFirstBoard : {B S Board : Type 0} → (Board → B) → MoveGame B S → ℕ → ℕ → ℕ → Option (ℕ × Board) → Type 0
IsFirstBoard cells game tier lo hi None = IsFirstCanonical (move_rules game) tier lo hi None
IsFirstBoard cells game tier lo hi (Some found) =
    IsFirstCanonical (move_rules game) tier lo hi (Some found.0) × (cells found.1 ≡ board_of (board_game game) (at tier found.0))
