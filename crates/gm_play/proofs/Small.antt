-- The values of tables are within the limit.
use Rattle.gm_play.proofs.Lower.{◌≡◌, ◌≤◌, ℕ, List, Bool, true, false, Option, None, Some, refl, REMOTENESS, Position, Solved, Rules, TableData, AreTables, value_in}
use Rattle.gm_table.specs.Tables.{table_of, record_at, record_in}
use Rattle.gm_game.specs.Records.{IsTrueTable}
use Rattle.std.proofs.Common.{if◌then◌else◌}
use Rattle.std.specs.Prelude.{IfSome, slice_get}

-- no value of a table is farther than the limit
small_record : (r : Rules) (t : TableData) (i : ℕ) (o : Option (Option Solved)) → IsTrueTable r REMOTENESS t.tier t.records → slice_get t.records i ≡ o →
    IfSome (elim o [ None ↦ None | Some x ↦ x ]) (λ s. s.remoteness ≤ REMOTENESS)
small_record r t i None h e = tt
small_record r t i (Some None) h e = tt
small_record r t i (Some (Some s)) h e = (h.each i (Some s) e).2

small_in : (r : Rules) (entries : List TableData) (tier i : ℕ) (o : Option TableData) → AreTables r entries → table_of entries tier ≡ o → IfSome
    (elim o [ None ↦ None | Some t ↦ record_at t.records i ]) (λ s. s.remoteness ≤ REMOTENESS)
small_in r entries tier i None h e = tt
small_in r entries tier i (Some t) h e = small_record r t i (slice_get t.records i) (h tier t e).1.is_true refl

small_if : (b : Bool) (o : Option Solved) → IfSome o (λ s. s.remoteness ≤ REMOTENESS) → IfSome (if b then o else None) (λ s. s.remoteness ≤ REMOTENESS)
small_if true o h = h
small_if false o h = tt

pub value_small : (r : Rules) (entries : List TableData) (p : Position) → AreTables r entries → IfSome (value_in r entries p) (λ s. s.remoteness ≤ REMOTENESS)
value_small r entries p h = small_if (r.is_legal p) (record_in entries (r.canonical p))
    (small_in r entries (r.canonical p).tier (r.canonical p).index (table_of entries (r.canonical p).tier) h refl)
