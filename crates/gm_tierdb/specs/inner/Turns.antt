-- Which calls fail on purpose.
use Rattle.std.specs.Prelude.{ℕ, ◌+◌, ◌-◌, ◌^◌, ◌≤◌, min}

-- the number of the next call; the greatest number stays
abbrev pub next_call : ℕ → ℕ
next_call calls = min (calls + 1) (2 ^ 64 - 1)

-- the next call is one of those that fail
abbrev pub FailsNext : ℕ → ℕ → ℕ → Type 0
FailsNext from to calls = (from ≤ next_call calls) × (next_call calls ≤ to)
