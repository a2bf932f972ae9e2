-- The rules of Clobber on four by four: all cells have pieces at the start, and each step takes one.
use Rattle.std.specs.Prelude.{ℕ, ◌+◌, ◌/◌, ◌%◌, ◌==◌, Bool, false, List, [], ◌∷◌, ◌++◌, map, replicate, codes, if◌then◌else◌}
use Rattle.std.specs.List.{filter, flat_map, range_with_len}
use Rattle.gm_board.specs.Squares.{square_symmetries}
use Rattle.gm_board.specs.declared.cell.Cell.TheVariants.{Mine, Theirs}
use Rattle.gm_draw.specs.Points.{square_points}
use Rattle.gm_morris.specs.Morris.{distance}
use Rattle.gm_patterns.specs.Steps.{capture}
use Rattle.gm_patterns.specs.PatternGames.{PatternGame, usual}
use Rattle.gm_patterns.specs.declared.rules.Tiers.TheVariants.{Sides}
use Rattle.gm_patterns.specs.declared.step.Step.{Step}

-- whether two cells of four by four are neighbors in a row or a column
abbrev pub are_beside : ℕ → ℕ → Bool
are_beside a c = distance (a / 4) (c / 4) + distance (a % 4) (c % 4) == 1

-- a piece takes one of the opponent's beside it
abbrev pub captures : List Step
captures = flat_map (λ a. map (capture a) (filter (are_beside a) (range_with_len 0 16))) (range_with_len 0 16)

-- the game: the cells have pieces of the two sides as a chess board has colors, the first cell one of the mover's; who can't take a piece has lost
abbrev pub clobber : PatternGame
clobber = record (usual 16) {
  name = codes "clobber" ++ replicate 9 0;
  start = map (λ k. if (k / 4 + k % 4) % 2 == 0 then Mine else Theirs) (range_with_len 0 16);
  names = square_points 4;
  tiers = Sides;
  adds = false;
  phases = captures ∷ [];
  symmetries = square_symmetries 4;
}
