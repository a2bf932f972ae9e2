-- The last line that a session has written.
use Rattle.std.specs.Prelude.{◌≡◌, ℕ, ◌⊎◌, List, ◌++◌, codes, Option}
use Rattle.std.specs.Io.KnownBytes.{Appends}

-- the last line of a text
abbrev pub IsLastLine : List ℕ → List ℕ → Type 0
IsLastLine text line = (text ≡ line) ⊎ ((front : List ℕ) × (text ≡ front ++ codes "\n" ++ line))

-- the computer has won, or the person has ended the session before the end of the game
abbrev pub EndsWon : List ℕ → Type 0
EndsWon text = IsLastLine text (codes "over: computer wins\n") ⊎ (IsLastLine text (codes "bye\n") ⊎ IsLastLine text (codes "input ended\n"))

-- the computer has won, the game is a tie, or the person has ended the session before the end of the game
abbrev pub EndsUnlost : List ℕ → Type 0
EndsUnlost text = IsLastLine text (codes "over: tie\n") ⊎ EndsWon text

-- a text of this kind was written
abbrev pub WritesOne : (List ℕ → Type 0) → Option (List ℕ) → Option (List ℕ) → Type 0
WritesOne P before after = (text : List ℕ) × Appends before after text × P text
