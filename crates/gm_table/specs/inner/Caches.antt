-- Tables that are cached, and what they say of children.
use Rattle.std.specs.Prelude.{◌≡◌, ℕ, ◌<◌, ◌==◌, if◌then◌else◌, List, Option, None, Some, IsSome, length, map, get_or, option_copied}
use Rattle.std.specs.Borrow.{Bor}
use Rattle.std.specs.List.{Contains, filter}
use Rattle.gm_game.specs.declared.position.Position.{Position}
use Rattle.gm_game.specs.declared.position.Solved.{Solved}
use Rattle.gm_table.specs.inner.Shorts.{IsSummary, record_of_short, is_decided}
use Rattle.gm_table.specs.Tables.{TableData, table_of, record_at, record_of}
use Rattle.gm_table.specs.declared.cache.Shorts.{Shorts}
use Rattle.gm_table.specs.declared.summary.Summary.{Summary}

-- what a cache shows: the tables that it reads, and the tier whose own table it doesn't
pub record CacheData : Type 0 where
  pub tables : List TableData
  pub tier : ℕ

-- a cache of these tables, whose own tier is this
abbrev pub cache_of : List TableData → ℕ → CacheData
cache_of tables tier = record { tables = tables; tier = tier }

-- the table of another tier
abbrev pub other_table : CacheData → ℕ → Option TableData
other_table c tier = if tier == c.tier then None else table_of c.tables tier

-- the record of a position in the table of another tier
abbrev pub other_record : CacheData → Position → Option Solved
other_record c p = record_of (other_table c p.tier) p.index

-- the short forms of a tier's records, or none
abbrev pub AreShorts : CacheData → Shorts → Type 0
AreShorts c s = (i : ℕ) → i < length s.forms.now
    → (t : TableData) × (other_table c s.tier ≡ Some t) × (record_at t.records i ≡ record_of_short (get_or s.forms.now i 0))

-- what is cached: each table is that of its tier, and the short forms are a tier's
pub record AreCached (c : CacheData) (last : List (Option (Bor TableData))) (shorts : List Shorts) : Type 0 where
  pub long : length last ≡ 8
  pub long_shorts : length shorts ≡ 8
  pub table : (k : ℕ) → k < 8 → (t : TableData) → option_copied (get_or last k None) ≡ Some t → other_table c t.tier ≡ Some t
  pub forms : (k : ℕ) → k < 8 → (d : Shorts) → AreShorts c (get_or shorts k d)

-- the tables of other tiers know these positions, and these are their records
pub record AreRead (c : CacheData) (ps : List Position) (os : List (Option Solved)) : Type 0 where
  pub held : (p : Position) → Contains ps p → IsSome (other_table c p.tier)
  pub records : os ≡ map (other_record c) ps

-- the tables of other tiers know these positions, this is the summary of their records, and this is the number of those that are not draws
pub record IsSumOf (c : CacheData) (ps : List Position) (seen : Summary) (number : ℕ) : Type 0 where
  pub held : (p : Position) → Contains ps p → IsSome (other_table c p.tier)
  pub summary : IsSummary (map (other_record c) ps) seen
  pub decided : number ≡ length (filter is_decided (map (other_record c) ps))
