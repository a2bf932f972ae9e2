-- The counts of a table.
use Rattle.std.specs.Prelude.{◌≡◌, ℕ, zero, suc, ◌<◌, ◌+◌, ◌↔◌, ◌⊎◌, List, [], ◌∷◌, Option, length}
use Rattle.std.specs.List.{Contains, AllPairs}
use Rattle.gm_game.specs.declared.position.Solved.{Solved}
use Rattle.gm_game.specs.declared.position.Value.{Value}
use Rattle.gm_analyse.specs.declared.counts.Count.{Count}
use Rattle.gm_analyse.specs.Numbers.{value_rank, number_in}

-- the count comes before those of the value with this rank and of this remoteness
abbrev pub ComesBefore : ℕ → ℕ → Count → Type 0
ComesBefore r k c = (value_rank c.value < r) ⊎ ((value_rank c.value ≡ r) × (c.remoteness < k))

-- the first count comes before the second
abbrev pub IsCountBefore : Count → Count → Type 0
IsCountBefore a b = ComesBefore (value_rank b.value) b.remoteness a

-- some record has the value and remoteness of the count, and its number is how many have
abbrev pub IsRecordCount : List (Option Solved) → Count → Type 0
IsRecordCount records c = (c.number ≡ number_in records (length records) c.value c.remoteness) × (0 < c.number)

-- the counts are those of each value and remoteness that some record has, in order
pub record AreRecordCounts (records : List (Option Solved)) (counts : List Count) : Type 0 where
  pub ordered : AllPairs IsCountBefore counts
  pub exact : (c : Count) → Contains counts c ↔ IsRecordCount records c

-- the counts that come before a value and remoteness, by what it means that so many have a value and remoteness
pub record AreCountsBefore (IsNumber : Value → ℕ → ℕ → Type 0) (r k : ℕ) (counts : List Count) : Type 0 where
  pub ordered : AllPairs IsCountBefore counts
  pub exact : (c : Count) → Contains counts c ↔ ((IsNumber c.value c.remoteness c.number × (0 < c.number)) × ComesBefore r k c)

-- the counts of a value, by how many have it with each remoteness from this one on
abbrev pub counted : Value → ℕ → List ℕ → List Count
counted v k [] = []
counted v k (zero ∷ ns) = counted v (k + 1) ns
counted v k (suc n ∷ ns) = (record { value = v; remoteness = k; number = suc n }) ∷ counted v (k + 1) ns
