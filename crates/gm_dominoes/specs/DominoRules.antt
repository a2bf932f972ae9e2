-- The rules of Domineering and of Cram on a square of side s: the cells that dominoes cover have pieces that belong to both players.
use Rattle.std.specs.Prelude.{ℕ, ◌+◌, ◌-◌, ◌*◌, ◌/◌, ◌%◌, ◌==◌, ◌&&◌, nat_lt, Bool, true, false, List, [], ◌∷◌, ◌++◌, map, replicate, codes}
use Rattle.std.specs.List.{filter, range_with_len}
use Rattle.gm_board.specs.Squares.{square_symmetries}
use Rattle.gm_draw.specs.Points.{square_points}
use Rattle.gm_patterns.specs.Steps.{cover}
use Rattle.gm_patterns.specs.PatternGames.{PatternGame, usual}
use Rattle.gm_patterns.specs.declared.rules.Tiers.TheVariants.{Common}
use Rattle.gm_patterns.specs.declared.step.Step.{Step}

-- a domino on a cell and the one below it
abbrev pub upright : ℕ → List Step
upright s = map (λ k. cover k (k + s)) (range_with_len 0 (s * (s - 1)))

-- a domino on a cell and the one to the right of it
abbrev pub lying : ℕ → List Step
lying s = map (λ k. cover k (k + 1)) (filter (λ k. nat_lt (k % s) (s - 1)) (range_with_len 0 (s * s)))

-- rows and columns as they are and in reverse order
abbrev pub flips : ℕ → List (List ℕ)
flips s = map (λ f. map f (range_with_len 0 (s * s)))
    ((λ k. k) ∷ (λ k. s * (k / s) + (s - 1 - k % s)) ∷ (λ k. s * (s - 1 - k / s) + k % s) ∷ (λ k. s * s - 1 - k) ∷ [])

-- Domineering: after each domino two more cells are covered, and their number tells whose turn it is: the first player places upright dominoes, the second lying
-- ones; who can't place a domino has lost
abbrev pub domineering_with : List ℕ → ℕ → PatternGame
domineering_with name s = record (usual (s * s)) {
  name = name;
  names = square_points s;
  numbers = λ mine theirs. mine % 2 == 0 && theirs == 0;
  tiers = Common;
  phase = λ pieces. pieces / 2 % 2;
  phases = upright s ∷ lying s ∷ [];
  swapped = false;
  symmetries = flips s;
}

abbrev pub domineering_four : PatternGame
domineering_four = domineering_with (codes "domineering-4" ++ replicate 3 0) 4

abbrev pub domineering_five : PatternGame
domineering_five = domineering_with (codes "domineering-5" ++ replicate 3 0) 5

-- Cram: both players place dominoes either way
abbrev pub cram_with : List ℕ → ℕ → PatternGame
cram_with name s = record (domineering_with name s) {
  phase = λ pieces. 0;
  phases = (upright s ++ lying s) ∷ [];
  symmetries = square_symmetries s;
}

abbrev pub cram_four : PatternGame
cram_four = cram_with (codes "cram-4" ++ replicate 10 0) 4

abbrev pub cram_five : PatternGame
cram_five = cram_with (codes "cram-5" ++ replicate 10 0) 5

-- either game, Cram or Domineering
abbrev pub domino_four : Bool → PatternGame
domino_four true = cram_four
domino_four false = domineering_four

abbrev pub domino_five : Bool → PatternGame
domino_five true = cram_five
domino_five false = domineering_five
