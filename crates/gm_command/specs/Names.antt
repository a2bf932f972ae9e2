-- The games by their names.
use Rattle.std.specs.Prelude.{ℕ, List, ◌++◌, Option}
use Rattle.std.specs.List.{find}
use Rattle.std.specs.Option.{option_map}
use Rattle.std.specs.Str.{bytes_eq}
use Rattle.gm_command.specs.declared.names.GameName.{GameName}
use Rattle.gm_command.specs.declared.names.TheConstants.{GAMES, LATER_GAMES}

-- the first of these games that has this name, if one has
abbrev pub game_among : List (record { now : List ℕ } × GameName) → List ℕ → Option GameName
game_among games name = option_map (λ game. game.1) (find (λ game. bytes_eq name game.0.now) games)

-- the game of this name, if there is one
abbrev pub game_of_name : List ℕ → Option GameName
game_of_name = game_among (GAMES ++ LATER_GAMES)
