-- The rules of Toads and Frogs, made of tables/toads.game by tools/new_game.
use Rattle.std.specs.Prelude.{◌==◌, ◌&&◌, false, [], ◌∷◌, ◌++◌, replicate, codes, Some}
use Rattle.gm_board.specs.declared.cell.Cell.TheVariants.{Empty, Mine, Theirs}
use Rattle.gm_patterns.specs.Steps.{slide, hop}
use Rattle.gm_patterns.specs.PatternGames.{PatternGame, usual}
use Rattle.gm_patterns.specs.declared.rules.Tiers.TheVariants.{Single}

abbrev pub toads : PatternGame
toads = record (usual 11) {
  name = codes "toads" ++ replicate 11 0;
  start = Mine ∷ Mine ∷ Mine ∷ Mine ∷ Empty ∷ Empty ∷ Empty ∷ Theirs ∷ Theirs ∷ Theirs ∷ Theirs ∷ [];
  names = codes "a" ∷ codes "b" ∷ codes "c" ∷ codes "d" ∷ codes "e" ∷ codes "f" ∷ codes "g" ∷ codes "h" ∷ codes "i" ∷ codes "j" ∷ codes "k" ∷ [];
  numbers = λ mine theirs. mine == 4 && theirs == 4;
  tiers = Single 4;
  adds = false;
  phases =
      (slide 0 1 ∷ slide 1 2 ∷ slide 2 3 ∷ slide 3 4 ∷ slide 4 5 ∷ slide 5 6 ∷ slide 6 7 ∷ slide 7 8 ∷ slide 8 9 ∷ slide 9 10 ∷ hop 0 1 2 ∷ hop 1 2 3 ∷
      hop 2 3 4 ∷ hop 3 4 5 ∷ hop 4 5 6 ∷ hop 5 6 7 ∷ hop 6 7 8 ∷ hop 7 8 9 ∷ hop 8 9 10 ∷ [])
      ∷ [];
  turn = Some (10 ∷ 9 ∷ 8 ∷ 7 ∷ 6 ∷ 5 ∷ 4 ∷ 3 ∷ 2 ∷ 1 ∷ 0 ∷ []);
  symmetries = (0 ∷ 1 ∷ 2 ∷ 3 ∷ 4 ∷ 5 ∷ 6 ∷ 7 ∷ 8 ∷ 9 ∷ 10 ∷ []) ∷ [];
}
