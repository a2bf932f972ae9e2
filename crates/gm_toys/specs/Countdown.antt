-- The rules of Countdown: at most two may be taken at a time.
use Rattle.gm_toys.specs.Lower.{ℕ, List, codes, Rules}
use Rattle.std.specs.Prelude.{[], ◌∷◌, ◌++◌}
use Rattle.gm_toys.specs.Subtraction.{subtraction}

-- the name, padded with zeros
abbrev pub countdown_name : List ℕ
countdown_name = codes "countdown" ++ 0 ∷ 0 ∷ 0 ∷ 0 ∷ 0 ∷ 0 ∷ 0 ∷ []

-- the game from n down to 0
abbrev pub countdown : ℕ → Rules
countdown n = subtraction countdown_name 2 n
