-- What is left of a reader and a writer where a text was not read or written whole.
use Rattle.std.specs.Prelude.{◌≡◌, ℕ, ◌<◌, ◌≤◌, List, ◌++◌, length, Option}
use Rattle.std.specs.Io.KnownBytes.{Appends, Consumes}

-- the bytes written, if they are known, grow by a first part of the text
abbrev pub AppendsPart : Option (List ℕ) → Option (List ℕ) → List ℕ → Type 0
AppendsPart old new text = (front : List ℕ) × (rest : List ℕ) × (text ≡ front ++ rest) × Appends old new front

-- the bytes left to read, if they are known, lose at most this many at their front
abbrev pub ConsumesPart : Option (List ℕ) → Option (List ℕ) → ℕ → Type 0
ConsumesPart old new most = (front : List ℕ) × Consumes old new front × (length front ≤ most)

-- the bytes left to read, if they are known, lose at least one at their front
abbrev pub ConsumesSome : Option (List ℕ) → Option (List ℕ) → Type 0
ConsumesSome old new = (front : List ℕ) × Consumes old new front × (0 < length front)
