-- Ascending lists of numbers without repeats, made one number at a time.
use Rattle.std.specs.Prelude.{ℕ, nat_lt, ◌==◌, List, [], ◌∷◌, if◌then◌else◌, fold}

-- an ascending list with x put in its place, unless the list has it already
abbrev pub put : ℕ → List ℕ → List ℕ
put x [] = x ∷ []
put x (y ∷ ys) = if nat_lt x y then x ∷ y ∷ ys else (if x == y then y ∷ ys else y ∷ put x ys)

-- the ascending list ys with each number of xs put in its place, unless the list has it already
abbrev pub put_all : List ℕ → List ℕ → List ℕ
put_all ys xs = fold (λ zs x. put x zs) ys xs
