-- The runs of the numbers that are tried.
use Rattle.std.specs.Prelude.{ℕ}
use Rattle.gm_pieces.specs.declared.candidates.Run.{Run}

-- one number for each square
abbrev pub row : ℕ → ℕ → Run
row first step = record { first = first; step = step; count = 64 }
