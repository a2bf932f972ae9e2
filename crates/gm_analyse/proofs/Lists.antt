-- The counts of a table.
use Rattle.gm_analyse.proofs.Lower.{◌≡◌, ℕ, List, length, sym, ◌∙◌, Option, Solved, Value, Count, number_in, AreCountsBefore}
use Rattle.gm_analyse.specs.Listing.{AreRecordCounts}
use Rattle.gm_analyse.proofs.CountLists as lists

module _ (records : List (Option Solved)) where
  abbrev pub Num : Value → ℕ → ℕ → Type 0
  Num v k n = n ≡ number_in records (length records) v k

  pub num_once : (v : Value) (k a b : ℕ) → Num v k a → Num v k b → a ≡ b
  num_once v k a b e f = e ∙ sym f

  -- all values are done
  pub all_counts : (cs : List Count) → AreCountsBefore Num 4 0 cs → AreRecordCounts records cs
  all_counts cs h = record { ordered = h.ordered; exact = lists.all_counts Num num_once cs h }
