-- Parts of ledgers and their amounts, and a shard with its book.
use Rattle.std.specs.Prelude.{ℕ, ◌+◌, ◌-◌, ◌==◌, if◌then◌else◌}
use Rattle.gm_locks.specs.Spots.{for_shard}

-- some parts of a ledger and an amount
pub record Part : Type 0 where
  pub parts : ℕ
  pub amount : ℕ

-- the same number of parts of each of four ledgers, and the amount of each
pub record Amounts : Type 0 where
  pub parts : ℕ
  pub a : ℕ
  pub b : ℕ
  pub c : ℕ
  pub d : ℕ

-- one part of each ledger, with amounts of 0
abbrev pub one_part : Amounts
one_part = record { parts = 1; a = 0; b = 0; c = 0; d = 0 }

-- the amount of shard k
abbrev pub amount_of : Amounts → ℕ → ℕ
amount_of s k = for_shard k s.a s.b s.c s.d

-- the amounts of all four together
abbrev pub total_of : Amounts → ℕ
total_of s = s.a + s.b + s.c + s.d

-- the amounts after that of shard k has risen by n
abbrev pub raised : Amounts → ℕ → ℕ → Amounts
raised s k n =
    record {
      parts = s.parts;
      a = s.a + (if k == 0 then n else 0);
      b = s.b + (if k == 1 then n else 0);
      c = s.c + (if k == 2 then n else 0);
      d = s.d + (if k == 3 then n else 0);
    }

-- the parts and amounts of both
abbrev pub joined_amounts : Amounts → Amounts → Amounts
joined_amounts s t = record { parts = s.parts + t.parts; a = s.a + t.a; b = s.b + t.b; c = s.c + t.c; d = s.d + t.d }

-- one part fewer, and the same amounts
abbrev pub split_of : Amounts → Amounts
split_of s = record { parts = s.parts - 1; a = s.a; b = s.b; c = s.c; d = s.d }
