-- The words of moves: names of points by a function of the point.
use Rattle.std.proofs.Common.{ℕ, ◌<◌, List, ◌∷◌, ◌++◌, map, refl, inl, inr}
use Rattle.std.specs.List.{Contains, range_with_len}
use Rattle.gm_board.specs.laws.Lists.{contains_map, contains_range}
use Rattle.gm_draw.specs.Points.{IsPointWord}

pub named_point : (f : ℕ → List ℕ) (n k : ℕ) → k < n → Contains (map f (range_with_len 0 n)) (f k)
named_point f n k l = contains_map f (range_with_len 0 n) k (contains_range n k l)

-- one point, and two with `-` between them
pub one_point : (f : ℕ → List ℕ) (n k : ℕ) → k < n → IsPointWord (map f (range_with_len 0 n)) (f k)
one_point f n k l = inl (named_point f n k l)

pub two_points : (f : ℕ → List ℕ) (n a b : ℕ) → a < n → b < n → IsPointWord (map f (range_with_len 0 n)) (f a ++ 45 ∷ f b)
two_points f n a b l h = inr (f a, f b, named_point f n a l, named_point f n b h, refl)
