-- The rules of Kayles on a row of twelve pins: a cell has a pin, a piece that belongs to both players, or it is free.
use Rattle.std.specs.Prelude.{◌+◌, ◌==◌, false, List, [], ◌∷◌, ◌++◌, map, replicate, reverse, codes}
use Rattle.std.specs.List.{range_with_len}
use Rattle.gm_board.specs.declared.cell.Cell.TheVariants.{Mine}
use Rattle.gm_patterns.specs.Steps.{take}
use Rattle.gm_patterns.specs.PatternGames.{PatternGame, usual}
use Rattle.gm_patterns.specs.declared.rules.Tiers.TheVariants.{Common}
use Rattle.gm_patterns.specs.declared.step.Step.{Step}

-- a pin is taken, or two that are beside each other
abbrev pub takes : List Step
takes = map (λ k. take k k) (range_with_len 0 12) ++ map (λ k. take k (k + 1)) (range_with_len 0 11)

-- the game: who takes the last pin has won, so that a player who finds none has lost. The pins are named by letters; the row may be reversed
abbrev pub kayles : PatternGame
kayles = record (usual 12) {
  name = codes "kayles" ++ replicate 10 0;
  start = replicate 12 Mine;
  names = map (λ k. (97 + k) ∷ []) (range_with_len 0 12);
  numbers = λ mine theirs. theirs == 0;
  tiers = Common;
  adds = false;
  phases = takes ∷ [];
  swapped = false;
  symmetries = range_with_len 0 12 ∷ reverse (range_with_len 0 12) ∷ [];
}
