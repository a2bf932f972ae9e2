-- The rules of Hex on s by s cells: a cell has beside it the next cells of its row and column, the one above it to the right and the one below it to the left.
-- The mover connects the first row with the last, and the opponent the first column with the last.
use Rattle.std.specs.Prelude.{ℕ, zero, suc, ◌+◌, ◌-◌, ◌*◌, ◌/◌, ◌%◌, ◌==◌, ◌&&◌, ◌||◌, nat_le, not, Bool, List, [], ◌∷◌, ◌++◌, map, replicate, codes, if◌then◌else◌, Some}
use Rattle.std.specs.List.{filter, flat_map, list_any, range_with_len}
use Rattle.gm_draw.specs.Points.{square_points}
use Rattle.gm_patterns.specs.Patterns.{mine_on, theirs_on}
use Rattle.gm_patterns.specs.PatternGames.{PatternGame, usual}

-- whether the second number is one more than the first
abbrev pub is_next : ℕ → ℕ → Bool
is_next x y = x + 1 == y

-- whether two cells are beside each other
abbrev pub are_beside : ℕ → ℕ → ℕ → Bool
are_beside s a c =
    (a / s == c / s && (is_next (a % s) (c % s) || is_next (c % s) (a % s)))
    || (is_next (a / s) (c / s) && (a % s == c % s || is_next (c % s) (a % s)))
    || (is_next (c / s) (a / s) && (a % s == c % s || is_next (a % s) (c % s)))

-- whether a cell of a lower row can follow in a chain whose last cell is k, and the others ks: it is beside k, and neither one of the others nor beside one
abbrev pub can_follow : ℕ → ℕ → List ℕ → ℕ → Bool
can_follow s k ks c = nat_le s c && (are_beside s k c && not (list_any (λ j. j == c || are_beside s j c) ks))

-- the chains that begin as this one and go on by at most n cells to the last row, the last cell first
abbrev pub chains_from : ℕ → ℕ → ℕ → List ℕ → List (List ℕ)
chains_from s zero k ks = []
chains_from s (suc n) k ks = if nat_le (s * (s - 1)) k
    then (k ∷ ks) ∷ []
    else flat_map (λ c. chains_from s n c (k ∷ ks)) (filter (can_follow s k ks) (range_with_len 0 (s * s)))

-- the chains from the first row to the last of which no cell can be left out
abbrev pub chains : ℕ → List (List ℕ)
chains s = flat_map (λ k. chains_from s (s * s) k []) (range_with_len 0 s)

-- the cell with its row and column exchanged
abbrev pub transposed : ℕ → ℕ → ℕ
transposed s k = s * (k % s) + k / s

-- the game: the player who has made a chain has won; a full board has a chain, so that nobody is left without a move. Rows and columns are exchanged for the other player, and the board may be turned by half
abbrev pub hex_with : List ℕ → ℕ → PatternGame
hex_with name s = record (usual (s * s)) {
  name = name;
  names = square_points s;
  turn = Some (map (transposed s) (range_with_len 0 (s * s)));
  forbidden = map mine_on (chains s);
  lost = map (λ ks. theirs_on (map (transposed s) ks)) (chains s);
  symmetries = range_with_len 0 (s * s) ∷ map (λ k. s * s - 1 - k) (range_with_len 0 (s * s)) ∷ [];
}

-- on three by three
abbrev pub hex_three : PatternGame
hex_three = hex_with (codes "hex-3" ++ replicate 11 0) 3

-- and on four by four
abbrev pub hex_four : PatternGame
hex_four = hex_with (codes "hex-4" ++ replicate 11 0) 4
