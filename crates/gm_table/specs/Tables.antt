-- Tables as data.
use Rattle.std.specs.Prelude.{◌≡◌, ℕ, ◌<◌, ◌≤◌, ◌==◌, if◌then◌else◌, List, [], ◌∷◌, Option, None, Some, IsSome, length, slice_get, get_or}
use Rattle.std.specs.List.{Contains}
use Rattle.gm_game.specs.declared.position.Position.{Position}
use Rattle.gm_game.specs.declared.position.Phase.{Phase}
use Rattle.gm_game.specs.declared.position.Solved.{Solved}
use Rattle.gm_game.specs.declared.limits.TheConstants.{REMOTENESS, TIER_SIZE}
use Rattle.gm_game.specs.Rules.{Rules}
use Rattle.gm_game.specs.Records.{IsTrueTable}
use Rattle.gm_table.specs.declared.outline.Outline.{Outline}
use Rattle.gm_table.specs.Levels.{indexes_at}
use Rattle.gm_table.specs.inner.Outlines.{IsOutlineOf}

-- what a table shows
pub record TableData : Type 0 where
  pub tier : ℕ
  pub records : List (Option Solved)

-- the record at an index: none past the end
abbrev pub record_at : List (Option Solved) → ℕ → Option Solved
record_at records index = elim (slice_get records index) [ None ↦ None | Some o ↦ o ]

-- the true table of its tier, within the limits
pub record IsTable (r : Rules) (t : TableData) : Type 0 where
  pub is_true : IsTrueTable r REMOTENESS t.tier t.records
  pub is_small : length t.records ≤ TIER_SIZE

-- what a table keeps: that it is true, and an outline of its records
pub record IsKept (r : Rules) (t : TableData) (outline : Outline) : Type 0 where
  pub table : IsTable r t
  pub outlined : IsOutlineOf t.records outline

-- the table of a tier, if it is held
abbrev pub table_of : List TableData → ℕ → Option TableData
table_of [] tier = None
table_of (t ∷ ts) tier = if t.tier == tier then Some t else table_of ts tier

-- one more table is held, instead of any other of its tier
abbrev pub Inserts : List TableData → List TableData → TableData → Type 0
Inserts old new t = (tier : ℕ) → table_of new tier ≡ (if t.tier == tier then Some t else table_of old tier)

-- the tier has a table
abbrev pub IsHeld : List TableData → ℕ → Type 0
IsHeld entries tier = IsSome (table_of entries tier)

-- each child tier of the tier has a table
abbrev pub AreHeld : Rules → List TableData → ℕ → Type 0
AreHeld r entries tier = (child : ℕ) → Contains (r.child_tiers tier) child → IsHeld entries child

-- the record at an index of a table, if there is one
abbrev pub record_of : Option TableData → ℕ → Option Solved
record_of None index = None
record_of (Some t) index = record_at t.records index

-- the record of a position in the table of its tier
abbrev pub record_in : List TableData → Position → Option Solved
record_in entries p = elim (table_of entries p.tier) [ None ↦ None | Some t ↦ record_at t.records p.index ]

-- the record of a legal position's canonical position; none for a position that isn't legal
abbrev pub value_in : Rules → List TableData → Position → Option Solved
value_in r entries p = if r.is_legal p then record_in entries (r.canonical p) else None

-- the indexes at a place of the table of a tier, ascending; none if the table isn't held
abbrev pub run_of : List TableData → ℕ → Phase → ℕ → List ℕ
run_of entries tier phase n = elim (table_of entries tier) [ None ↦ [] | Some t ↦ indexes_at phase n t.records ]

-- the tables that are held are true, and each is held for its own tier
abbrev pub AreTables : Rules → List TableData → Type 0
AreTables r entries = (tier : ℕ) (t : TableData) → table_of entries tier ≡ Some t → (t.tier ≡ tier) × IsTable r t

-- what lists of tiers and of their tables keep: each table is of its tier, and is true
abbrev pub AreKept : Rules → List ℕ → List TableData → Type 0
AreKept r [] [] = Unit {0}
AreKept r (n ∷ ns) (t ∷ ts) = (t.tier ≡ n) × IsTable r t × AreKept r ns ts
AreKept r [] (t ∷ ts) = ⊥
AreKept r (n ∷ ns) [] = ⊥

-- the first place of a tier in a list
pub record IsFirstPlaceOf (tiers : List ℕ) (tier k : ℕ) : Type 0 where
  pub inside : k < length tiers
  pub here : get_or tiers k 0 ≡ tier
  pub first : (j : ℕ) → j < k → get_or tiers j 0 ≡ tier → ⊥
