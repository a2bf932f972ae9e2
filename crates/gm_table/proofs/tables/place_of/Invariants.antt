use Rattle.gm_table.proofs.Lower.{◌≡◌, ℕ, ◌<◌, get_or}
use Rattle.gm_table.proofs.tables.place_of.Given as goal

abbrev pub invariant-loop-k : goal.invariant-loop-k
invariant-loop-k l = (j : ℕ) → j < l.k → get_or l.tiers j 0 ≡ l.tier → ⊥
