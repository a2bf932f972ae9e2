-- A service in its midst.
use Rattle.std.specs.Prelude.{◌≡◌, ℕ, ◌+◌, ◌≤◌, List, ◌++◌, length, take, Option}
use Rattle.std.specs.Io.KnownBytes.{Appends, Consumes}
use Rattle.gm_json.specs.Asking.{kept_bytes, block_bytes, AreEnded, AreAnswers}

module _ (Says : List ℕ → ℕ → List ℕ → Type 0) where
  -- between two reads: these bytes are read, the lines that end in them are answered, and of the line that has begun a front is kept
  pub record GoesOn (number : ℕ) (kept : List ℕ) (r0 r1 w0 w1 : Option (List ℕ)) : Type 0 where
    pub bytes : List ℕ
    pub lines : List (List ℕ)
    pub line : List ℕ
    pub text : List ℕ
    pub numbered : number ≡ 1 + length lines
    pub reads : Consumes r0 r1 bytes
    pub writes : Appends w0 w1 text
    pub keeps : kept ≡ take kept_bytes line
    pub answers : AreAnswers Says 1 lines text
    pub goes : AreEnded bytes lines line

  -- amid a block: what came before it, how far it is taken, what of the answers is pending, and what is ahead
  pub record Midst (number : ℕ) (kept pending ahead : List ℕ) (r0 r1 w0 w1 : Option (List ℕ)) : Type 0 where
    pub bytes : List ℕ
    pub lines : List (List ℕ)
    pub begun : List ℕ
    pub text : List ℕ
    pub goes : AreEnded bytes lines begun
    pub answers : AreAnswers Says 1 lines text
    pub block : List ℕ
    pub later : List (List ℕ)
    pub line : List ℕ
    pub done : List ℕ
    pub goes_on : AreEnded (bytes ++ block) (lines ++ later) line
    pub later_answers : AreAnswers Says (1 + length lines) later (done ++ pending)
    pub numbered : number ≡ 1 + length (lines ++ later)
    pub keeps : kept ≡ take kept_bytes line
    pub few : length block + length ahead ≤ block_bytes
    pub reads : Consumes r0 r1 (bytes ++ (block ++ ahead))
    pub writes : Appends w0 w1 (text ++ done)
