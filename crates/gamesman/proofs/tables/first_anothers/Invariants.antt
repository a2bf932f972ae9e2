use Rattle.gamesman.proofs.Lower.{◌≡◌}
use Rattle.gamesman.specs.Shelves.{failed_in}
use Rattle.gamesman.proofs.tables.first_anothers.Given as goal

abbrev pub invariant-loop-tier : goal.invariant-loop-tier
invariant-loop-tier g l = failed_in l.shelf ≡ failed_in l.fn.shelf
