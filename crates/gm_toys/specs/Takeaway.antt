-- The rules of Takeaway: there are twelve counters, a move takes one to three of them, and the player who takes the last counter wins.
use Rattle.gm_toys.specs.Lower.{ℕ, List, codes, Rules}
use Rattle.std.specs.Prelude.{[], ◌∷◌, ◌++◌}
use Rattle.gm_toys.specs.Subtraction.{subtraction}

-- the name, padded with zeros
abbrev pub takeaway_name : List ℕ
takeaway_name = codes "takeaway" ++ 0 ∷ 0 ∷ 0 ∷ 0 ∷ 0 ∷ 0 ∷ 0 ∷ 0 ∷ []

-- the game from twelve counters down to none
abbrev pub takeaway : Rules
takeaway = subtraction takeaway_name 3 12
