-- Numbers of moves to try: lists of candidates.
use Rattle.std.specs.Prelude.{◌≡◌, ℕ, ◌+◌, ◌-◌, ◌*◌, ◌<◌, ◌^◌, nat_lt, Bool, true, if◌then◌else◌}
use Rattle.gm_pieces.specs.declared.candidates.Run.{Run}
use Rattle.gm_pieces.specs.declared.candidates.Candidates.{Candidates}

-- the number at a place
abbrev pub run_at : Run → ℕ → ℕ
run_at r k = r.first + r.step * k

abbrev pub count_of : Candidates → ℕ
count_of c = c.low.count + c.high.count

abbrev pub number_at : Candidates → ℕ → ℕ
number_at c k = if nat_lt k c.low.count then run_at c.low k else run_at c.high (k - c.low.count)

-- one run
abbrev pub one : Run → Candidates
one r = record { low = r; high = record { first = 0; step = 0; count = 0 } }

-- these numbers ascend and are below the bound, and each number below the bound that passes the test is among them
pub record AreCandidates (p : ℕ → Bool) (bound : ℕ) (c : Candidates) : Type 0 where
  pub fit : count_of c < 2 ^ 32
  pub ascending : (j k : ℕ) → j < k → k < count_of c → number_at c j < number_at c k
  pub below : (k : ℕ) → k < count_of c → number_at c k < bound
  pub complete : (m : ℕ) → m < bound → p m ≡ true → (k : ℕ) × (k < count_of c) × (number_at c k ≡ m)

-- the number at a place, or the bound after the last: all candidates before this place are below it
abbrev pub edge : Candidates → ℕ → ℕ → ℕ
edge c bound k = if nat_lt k (count_of c) then number_at c k else bound
