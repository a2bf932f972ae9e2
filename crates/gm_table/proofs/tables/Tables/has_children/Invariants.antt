use Rattle.gm_table.proofs.Lower.{ℕ, ◌<◌, get_or, IsHeld}
use Rattle.gm_table.proofs.tables.Tables.has_children.Given as goal

abbrev pub invariant-loop-child : goal.invariant-loop-child
invariant-loop-child g l = (k : ℕ) → k < l.child-index → IsHeld l.self (get_or l.child-items k 0)
