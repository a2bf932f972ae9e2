-- The rules of Hexapawn: a board has nine cells, three rows from the top, each from left to right. The mover's men go up.
use Rattle.std.specs.Prelude.{◌+◌, ◌-◌, ◌*◌, ◌/◌, ◌%◌, ◌&&◌, nat_le, nat_lt, false, List, [], ◌∷◌, ◌++◌, map, replicate, reverse, codes, Some}
use Rattle.std.specs.List.{filter, range_with_len}
use Rattle.gm_board.specs.declared.cell.Cell.TheVariants.{Empty, Mine, Theirs}
use Rattle.gm_draw.specs.Points.{square_points}
use Rattle.gm_patterns.specs.Patterns.{mine_on, theirs_on}
use Rattle.gm_patterns.specs.Steps.{slide, capture}
use Rattle.gm_patterns.specs.PatternGames.{PatternGame, usual}
use Rattle.gm_patterns.specs.declared.rules.Tiers.TheVariants.{Sides}
use Rattle.gm_patterns.specs.declared.step.Step.{Step}

-- a man goes one cell up, if it is empty
abbrev pub advances : List Step
advances = map (λ k. slide k (k - 3)) (range_with_len 3 6)

-- or it takes a man of the opponent's one cell up to the left or to the right
abbrev pub captures : List Step
captures = map (λ k. capture k (k - 4)) (4 ∷ 5 ∷ 7 ∷ 8 ∷ []) ++ map (λ k. capture k (k - 2)) (3 ∷ 4 ∷ 6 ∷ 7 ∷ [])

-- the game: a side whose man reaches the last row has won, and so has a side whose opponent can't move. The board is turned by half for the other player, and
-- left and right may be exchanged
abbrev pub hexapawn : PatternGame
hexapawn = record (usual 9) {
  name = codes "hexapawn" ++ replicate 8 0;
  start = Theirs ∷ Theirs ∷ Theirs ∷ Empty ∷ Empty ∷ Empty ∷ Mine ∷ Mine ∷ Mine ∷ [];
  names = square_points 3;
  numbers = λ mine theirs. nat_le mine 3 && nat_le theirs 3;
  tiers = Sides;
  adds = false;
  phases = (advances ++ captures) ∷ [];
  turn = Some (reverse (range_with_len 0 9));
  forbidden = map (λ k. mine_on (k ∷ [])) (range_with_len 0 3);
  lost = map (λ k. theirs_on (k ∷ [])) (range_with_len 6 3);
  symmetries = range_with_len 0 9 ∷ (2 ∷ 1 ∷ 0 ∷ 5 ∷ 4 ∷ 3 ∷ 8 ∷ 7 ∷ 6 ∷ []) ∷ [];
}

-- ---- four by four
abbrev pub advances_four : List Step
advances_four = map (λ k. slide k (k - 4)) (range_with_len 4 12)

abbrev pub captures_four : List Step
captures_four =
    map (λ k. capture k (k - 5)) (filter (λ k. nat_lt 0 (k % 4)) (range_with_len 4 12))
    ++ map (λ k. capture k (k - 3)) (filter (λ k. nat_lt (k % 4) 3) (range_with_len 4 12))

abbrev pub hexapawn_four : PatternGame
hexapawn_four = record hexapawn {
  name = codes "hexapawn-4" ++ replicate 6 0;
  names = square_points 4;
  start = replicate 4 Theirs ++ replicate 8 Empty ++ replicate 4 Mine;
  numbers = λ mine theirs. nat_le mine 4 && nat_le theirs 4;
  phases = (advances_four ++ captures_four) ∷ [];
  turn = Some (reverse (range_with_len 0 16));
  forbidden = map (λ k. mine_on (k ∷ [])) (range_with_len 0 4);
  lost = map (λ k. theirs_on (k ∷ [])) (range_with_len 12 4);
  symmetries = range_with_len 0 16 ∷ map (λ k. 4 * (k / 4) + (3 - k % 4)) (range_with_len 0 16) ∷ [];
}
