-- The rules of Four Field Kono: sixteen cells, four rows from the top, each from left to right.
use Rattle.std.specs.Prelude.{ℕ, ◌+◌, ◌/◌, ◌%◌, ◌==◌, ◌&&◌, ◌||◌, nat_le, nat_lt, Bool, false, List, [], ◌∷◌, ◌++◌, map, replicate, codes, if◌then◌else◌, None, Some}
use Rattle.std.specs.List.{filter, flat_map, range_with_len}
use Rattle.gm_board.specs.Squares.{square_symmetries}
use Rattle.gm_board.specs.declared.cell.Cell.TheVariants.{Mine, Theirs}
use Rattle.gm_draw.specs.Points.{square_points}
use Rattle.gm_game.specs.declared.position.End.TheVariants.{Lose}
use Rattle.gm_morris.specs.Morris.{distance}
use Rattle.gm_patterns.specs.Steps.{slides, vault}
use Rattle.gm_patterns.specs.PatternGames.{PatternGame, usual}
use Rattle.gm_patterns.specs.declared.rules.Tiers.TheVariants.{Sides}
use Rattle.gm_patterns.specs.declared.step.Step.{Step}

-- whether one cell is so many cells from another in its row or its column
abbrev pub are_apart_by : ℕ → ℕ → ℕ → Bool
are_apart_by d a c =
    (a / 4 == c / 4 && distance (a % 4) (c % 4) == d) || (a % 4 == c % 4 && distance (a / 4) (c / 4) == d)

-- the cells
abbrev pub cells : List ℕ
cells = range_with_len 0 16

-- a man goes to a free cell beside its own
abbrev pub men_go : List Step
men_go = slides 16 (are_apart_by 1)

-- or over a man of its own side beside it onto a man of the opponent's behind that, which it takes
abbrev pub vaults : List Step
vaults = flat_map (λ a. map (λ c. vault a ((a + c) / 2) c) (filter (are_apart_by 2 a) cells)) cells

-- the game: eight men a side fill two rows each; a side with fewer than two men has lost, and so has one that can't move. The opponent has two men at least, as when
-- he moved, and the mover has one at least
abbrev pub kono : PatternGame
kono = record (usual 16) {
  name = codes "kono" ++ replicate 12 0;
  start = replicate 8 Theirs ++ replicate 8 Mine;
  names = square_points 4;
  numbers = λ mine theirs. (nat_lt 0 mine && nat_le mine 8) && (nat_lt 1 theirs && nat_le theirs 8);
  over = λ mine theirs. if nat_lt mine 2 then Some Lose else None;
  tiers = Sides;
  adds = false;
  phases = (men_go ++ vaults) ∷ [];
  symmetries = square_symmetries 4;
}
