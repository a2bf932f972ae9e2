-- The rules of Chain: one is taken at a time.
use Rattle.gm_toys.specs.Lower.{ℕ, List, codes, Rules}
use Rattle.std.specs.Prelude.{[], ◌∷◌, ◌++◌}
use Rattle.gm_toys.specs.Subtraction.{subtraction}

-- the name, padded with zeros
abbrev pub chain_name : List ℕ
chain_name = codes "chain" ++ 0 ∷ 0 ∷ 0 ∷ 0 ∷ 0 ∷ 0 ∷ 0 ∷ 0 ∷ 0 ∷ 0 ∷ 0 ∷ []

-- the game from n down to 0
abbrev pub chain : ℕ → Rules
chain n = subtraction chain_name 1 n
