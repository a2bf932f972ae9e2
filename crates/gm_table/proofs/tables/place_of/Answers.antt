use Rattle.gm_table.proofs.Lower.{rules}
use Rattle.gm_table.proofs.tables.place_of.Goals as goal

pub returns-then-tiers-k-clause-some : goal.returns-then-tiers-k-clause-some
returns-then-tiers-k-clause-some c = record { inside = search rules; here = search rules; first = c.loop-k.invariant }
