-- The rules of Sim: the cells are the fifteen lines between six points, numbered 1 to 6. The players colour one line each by turns.
use Rattle.std.specs.Prelude.{ℕ, ◌+◌, ◌-◌, ◌*◌, ◌/◌, ◌%◌, min, max, List, [], ◌∷◌, ◌++◌, map, replicate, codes}
use Rattle.std.specs.List.{flat_map, range_with_len}
use Rattle.gm_game.specs.declared.position.End.TheVariants.{Tie}
use Rattle.gm_patterns.specs.Patterns.{mine_on, theirs_on}
use Rattle.gm_patterns.specs.PatternGames.{PatternGame, usual}

-- the points, from 0, and those after one
abbrev pub after : ℕ → List ℕ
after a = range_with_len (a + 1) (5 - a)

-- the lines in order, each by its two points, the lesser first
abbrev pub ends : List (ℕ × ℕ)
ends = flat_map (λ a. map (λ b. (a, b)) (after a)) (range_with_len 0 6)

-- the number of the line between two points, of which the first is the lesser
abbrev pub between : ℕ → ℕ → ℕ
between a b = a * (11 - a) / 2 + (b - a - 1)

-- the number of the line between any two points
abbrev pub line : ℕ → ℕ → ℕ
line a b = between (min a b) (max a b)

-- the triangles, each by its three lines
abbrev pub triangles : List (List ℕ)
triangles = flat_map (λ a. flat_map (λ b. map (λ c. line a b ∷ line a c ∷ line b c ∷ []) (after b)) (after a)) (range_with_len 0 6)

-- for each line, the line whose colour comes there, if the points of a hexagon change places so
abbrev pub by_points : (ℕ → ℕ) → List ℕ
by_points f = map (λ e. line (f e.0) (f e.1)) ends

-- the turns of the hexagon, and its reflections: 12 of the 720 ways to exchange the points
abbrev pub hexagon_symmetries : List (List ℕ)
hexagon_symmetries = map (λ r. by_points (λ p. (p + r) % 6)) (range_with_len 0 6) ++ map (λ r. by_points (λ p. (6 + r - p) % 6)) (range_with_len 0 6)

-- the game: the player who has completed a triangle of his own colour has lost. When all lines have colours there is such a triangle
abbrev pub sim : PatternGame
sim = record (usual 15) {
  name = codes "sim" ++ replicate 13 0;
  names = map (λ e. (49 + e.0) ∷ (49 + e.1) ∷ []) ends;
  forbidden = map mine_on triangles;
  won = map theirs_on triangles;
  stuck = Tie;
  symmetries = hexagon_symmetries;
}
