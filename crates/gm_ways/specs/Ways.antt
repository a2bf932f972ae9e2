-- The rules of Shisima, Tapatan and Mu Torere: a piece goes along a way to a free point. The ring has eight points and then the center.
use Rattle.std.specs.Prelude.{ℕ, ◌+◌, ◌-◌, ◌/◌, ◌%◌, Bool, ◌&&◌, ◌||◌, ◌==◌, nat_lt, false, List, [], ◌∷◌, ◌++◌, map, length, replicate, codes, if◌then◌else◌}
use Rattle.std.specs.List.{filter, flat_map, range_with_len}
use Rattle.gm_board.specs.Squares.{square_symmetries}
use Rattle.gm_board.specs.declared.cell.Cell.{Cell}
use Rattle.gm_board.specs.declared.cell.Cell.TheVariants.{Empty, Mine, Theirs}
use Rattle.gm_patterns.specs.Patterns.{mine_on, theirs_on, not_theirs_on, both}
use Rattle.gm_patterns.specs.Steps.{slide, slides, step_if}
use Rattle.gm_patterns.specs.PatternGames.{PatternGame, usual}
use Rattle.gm_patterns.specs.declared.rules.Tiers.TheVariants.{Single}
use Rattle.gm_patterns.specs.declared.step.Step.{Step}
use Rattle.gm_ways.specs.declared.ways.Variant.{Variant}
use Rattle.gm_ways.specs.declared.ways.Variant.TheVariants.{Shisima, Tapatan, MuTorere}

-- the game with this number; any other number stands for Shisima
unfoldable pub variant_of : ℕ → Variant
variant_of n = if n == 1 then Tapatan else (if n == 2 then MuTorere else Shisima)

-- a game in which each side has so many pieces, a player who fills a line wins, and a player who can't move has lost
abbrev pub way_game : List ℕ → List Cell → List (List ℕ) → ℕ → List Step → List (List ℕ) → List (List ℕ) → PatternGame
way_game name start names pieces steps lines symmetries = record (usual (length start)) {
  name = name;
  start = start;
  names = names;
  numbers = λ mine theirs. mine == pieces && theirs == pieces;
  tiers = Single pieces;
  adds = false;
  phases = steps ∷ [];
  forbidden = map mine_on lines;
  lost = map theirs_on lines;
  symmetries = symmetries;
}

-- ---- the ring
-- a point of the ring has its digit for its name, and the center `c`
abbrev pub ring_names : List (List ℕ)
ring_names = map (λ k. (48 + k) ∷ []) (range_with_len 0 8) ++ (99 ∷ []) ∷ []

-- the points before and after one on the ring, on which 0 comes after 7
abbrev pub before : ℕ → ℕ
before k = (k + 7) % 8

abbrev pub after : ℕ → ℕ
after k = (k + 1) % 8

abbrev pub are_beside : ℕ → ℕ → Bool
are_beside a c = c == before a || c == after a

-- the ways: a point of the ring is joined to the two beside it and to the center
abbrev pub ring_joins : ℕ → ℕ → Bool
ring_joins a c = if a == 8 then nat_lt c 8 else (c == 8 || are_beside a c)

-- the turns and the reflections of the ring; the center stays
abbrev pub ring_symmetries : List (List ℕ)
ring_symmetries =
    map (λ n. map (λ k. (k + n) % 8) (range_with_len 0 8) ++ 8 ∷ []) (range_with_len 0 8)
    ++ map (λ n. map (λ k. (n + 8 - k) % 8) (range_with_len 0 8) ++ 8 ∷ []) (range_with_len 0 8)

-- ---- Shisima: each side begins on three neighbors of the ring; two opposite points of the ring and the center are a line
abbrev pub shisima : PatternGame
shisima = way_game (codes "shisima" ++ replicate 9 0)
    (Mine ∷ Mine ∷ Mine ∷ Empty ∷ Theirs ∷ Theirs ∷ Theirs ∷ Empty ∷ Empty ∷ [])
    ring_names 3 (slides 9 ring_joins) (map (λ k. k ∷ (k + 4) ∷ 8 ∷ []) (range_with_len 0 4)) ring_symmetries

-- ---- Mu Torere
-- a piece goes to the center if an opponent's piece is beside it: before it, after it, or both
abbrev pub to_center : ℕ → List Step
to_center a =
    step_if (both (theirs_on (before a ∷ [])) (theirs_on (after a ∷ []))) (slide a 8)
    ∷ step_if (both (theirs_on (before a ∷ [])) (not_theirs_on (after a ∷ []))) (slide a 8)
    ∷ step_if (both (not_theirs_on (before a ∷ [])) (theirs_on (after a ∷ []))) (slide a 8) ∷ []

-- or it goes to a point beside it, and from the center to any point
abbrev pub mutorere_steps : List Step
mutorere_steps =
    flat_map (λ a. map (slide a) (filter (are_beside a) (range_with_len 0 8)) ++ to_center a) (range_with_len 0 8)
    ++ map (slide 8) (range_with_len 0 8)

-- each side begins on four neighbors of the ring; there are no lines
abbrev pub mutorere : PatternGame
mutorere = way_game (codes "mutorere" ++ replicate 8 0) (replicate 4 Mine ++ replicate 4 Theirs ++ Empty ∷ []) ring_names 4 mutorere_steps [] ring_symmetries

-- ---- Tapatan: three rows of three points from the top, each from left to right
abbrev pub tapatan_lines : List (List ℕ)
tapatan_lines = (0 ∷ 1 ∷ 2 ∷ []) ∷ (3 ∷ 4 ∷ 5 ∷ []) ∷ (6 ∷ 7 ∷ 8 ∷ []) ∷ (0 ∷ 3 ∷ 6 ∷ []) ∷ (1 ∷ 4 ∷ 7 ∷ []) ∷ (2 ∷ 5 ∷ 8 ∷ []) ∷ (0 ∷ 4 ∷ 8 ∷ []) ∷ (2 ∷ 4 ∷ 6 ∷ []) ∷ []

-- how far two numbers are from each other
abbrev pub distance : ℕ → ℕ → ℕ
distance x y = (x - y) + (y - x)

-- the ways: along rows and columns, and the center with the four corners
abbrev pub tapatan_joins : ℕ → ℕ → Bool
tapatan_joins a c =
    distance (a / 3) (c / 3) + distance (a % 3) (c % 3) == 1
    || ((a == 4 || c == 4) && (distance (a / 3) (c / 3) == 1 && distance (a % 3) (c % 3) == 1))

-- the pieces of the two sides stand by turns on the upper and the lower row; a point's name is a digit from 1 on
abbrev pub tapatan : PatternGame
tapatan = way_game (codes "tapatan" ++ replicate 9 0)
    (Theirs ∷ Mine ∷ Theirs ∷ Empty ∷ Empty ∷ Empty ∷ Mine ∷ Theirs ∷ Mine ∷ [])
    (map (λ k. (49 + k) ∷ []) (range_with_len 0 9)) 3 (slides 9 tapatan_joins) tapatan_lines (square_symmetries 3)

-- ---- each game
abbrev pub ways : Variant → PatternGame
ways Shisima = shisima
ways Tapatan = tapatan
ways MuTorere = mutorere

-- the game with this number: 0 is Shisima, 1 Tapatan, and 2 Mu Torere
abbrev pub on_ways : ℕ → PatternGame
on_ways n = ways (variant_of n)
