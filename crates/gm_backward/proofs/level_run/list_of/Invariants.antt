use Rattle.gm_backward.proofs.Lower.{◌≡◌, ◌++◌}
use Rattle.gm_backward.proofs.level_run.list_of.Given as goal

abbrev pub invariant-loop-note : goal.invariant-loop-note
invariant-loop-note g l = l.list ++ l.note-iterator ≡ l.fn.pairs
