-- Subtraction games: a number goes down by one or more, and the player to move at zero has lost.
use Rattle.gm_toys.specs.Lower.{ℕ, nat_le, List, None, Some, range_with_len, decimal, Position, Lose, Rules, at}
use Rattle.std.specs.Prelude.{◌+◌, ◌-◌, min, ◌&&◌, ◌==◌, [], if◌then◌else◌}

-- the moves at i: the numbers from 1 up to the most that may be taken, but at most i
abbrev pub moves_down : ℕ → ℕ → List ℕ
moves_down most i = range_with_len 1 (min most i)

-- the numbers up to n from which a move leads to i
abbrev pub numbers_above : ℕ → ℕ → ℕ → List ℕ
numbers_above most n i = range_with_len (i + 1) (min most (n - i))

-- the game from n down to 0, with at most this many taken at a time; one tier, and no symmetry
abbrev pub subtraction : List ℕ → ℕ → ℕ → Rules
subtraction name most n = record {
  name = name;
  initial = at 0 n;
  tier_size = λ t. if t == 0 then n + 1 else 0;
  is_legal = λ p. (p.tier == 0) && nat_le p.index n;
  primitive = λ p. if p.index == 0 then Some Lose else None;
  moves = λ p. moves_down most p.index;
  play = λ p m. at p.tier (p.index - m);
  canonical = λ p. p;
  parents = λ c t. if t == 0 then numbers_above most n c.index else [];
  child_tiers = λ t. [];
  tier_rank = λ t. 0;
}

-- a position's text is its number in decimal
abbrev pub number_text : Position → List ℕ
number_text p = decimal p.index

-- a move's text is the number that it takes
abbrev pub step_text : Position → ℕ → List ℕ
step_text p m = decimal m
