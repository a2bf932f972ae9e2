-- The rules of Pong Hau K'i: a board has five points, the two upper ones, the center and the two lower ones, each pair from left to right.
use Rattle.std.specs.Prelude.{◌+◌, List, [], ◌∷◌, ◌++◌, map, replicate, codes}
use Rattle.std.specs.List.{range_with_len}
use Rattle.gm_board.specs.declared.cell.Cell.TheVariants.{Empty, Mine, Theirs}
use Rattle.gm_patterns.specs.Steps.{slide}
use Rattle.gm_patterns.specs.PatternGames.{PatternGame}
use Rattle.gm_patterns.specs.declared.step.Step.{Step}
use Rattle.gm_ways.specs.Ways.{way_game}

-- the ways: the center is joined to all points, the points of each side to one another, and the two lower points to one another
abbrev pub pong_steps : List Step
pong_steps =
    map (slide 0) (2 ∷ 3 ∷ [])
    ++ map (slide 1) (2 ∷ 4 ∷ [])
    ++ map (slide 2) (0 ∷ 1 ∷ 3 ∷ 4 ∷ [])
    ++ map (slide 3) (0 ∷ 2 ∷ 4 ∷ [])
    ++ map (slide 4) (1 ∷ 2 ∷ 3 ∷ [])

-- the game: the player who begins has the lower points; a point's name is its digit; there is no line, so that only a player who can't move loses; left and right
-- may be exchanged
abbrev pub pong : PatternGame
pong = way_game (codes "ponghauki" ++ replicate 7 0) (Theirs ∷ Theirs ∷ Empty ∷ Mine ∷ Mine ∷ []) (map (λ k. (48 + k) ∷ []) (range_with_len 0 5)) 2 pong_steps []
    (range_with_len 0 5 ∷ (1 ∷ 0 ∷ 2 ∷ 4 ∷ 3 ∷ []) ∷ [])
