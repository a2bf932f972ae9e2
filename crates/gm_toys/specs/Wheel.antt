-- The rules of Wheel: ten numbers, and moves between them that can go round forever.
use Rattle.gm_toys.specs.Lower.{ℕ, nat_lt, List, codes, Option, None, Some, decimal, Position, End, Lose, Tie, Rules, at}
use Rattle.std.specs.Prelude.{◌&&◌, ◌==◌, [], ◌∷◌, ◌++◌, if◌then◌else◌}

-- the name, padded with zeros
abbrev pub wheel_name : List ℕ
wheel_name = codes "wheel" ++ 0 ∷ 0 ∷ 0 ∷ 0 ∷ 0 ∷ 0 ∷ 0 ∷ 0 ∷ 0 ∷ 0 ∷ 0 ∷ []

-- the numbers to which the moves from i lead
abbrev pub wheel_targets : ℕ → List ℕ
wheel_targets i =
    if i == 1 then 0 ∷ 2 ∷ [] else
    if i == 2 then 1 ∷ 3 ∷ [] else
    if i == 3 then 4 ∷ [] else
    if i == 4 then 3 ∷ [] else
    if i == 6 then 0 ∷ 5 ∷ [] else
    if i == 7 then 6 ∷ [] else
    if i == 8 then 3 ∷ 6 ∷ [] else
    if i == 9 then 1 ∷ 7 ∷ [] else []

-- the numbers from which a move leads to i
abbrev pub wheel_sources : ℕ → List ℕ
wheel_sources i =
    if i == 0 then 1 ∷ 6 ∷ [] else
    if i == 1 then 2 ∷ 9 ∷ [] else
    if i == 2 then 1 ∷ [] else
    if i == 3 then 2 ∷ 4 ∷ 8 ∷ [] else
    if i == 4 then 3 ∷ [] else
    if i == 5 then 6 ∷ [] else
    if i == 6 then 7 ∷ 8 ∷ [] else
    if i == 7 then 9 ∷ [] else []

-- the player to move has a tie at 0, and has lost at 5
abbrev pub wheel_end : ℕ → Option End
wheel_end i = if i == 0 then Some Tie else if i == 5 then Some Lose else None

-- the game from 9, each move numbered by its target; one tier, and no symmetry
abbrev pub wheel : Rules
wheel = record {
  name = wheel_name;
  initial = at 0 9;
  tier_size = λ t. if t == 0 then 10 else 0;
  is_legal = λ p. (p.tier == 0) && nat_lt p.index 10;
  primitive = λ p. wheel_end p.index;
  moves = λ p. wheel_targets p.index;
  play = λ p m. at p.tier m;
  canonical = λ p. p;
  parents = λ c t. if t == 0 then wheel_sources c.index else [];
  child_tiers = λ t. [];
  tier_rank = λ t. 0;
}

-- a move's text is its target in decimal
abbrev pub target_text : Position → ℕ → List ℕ
target_text p m = decimal m
