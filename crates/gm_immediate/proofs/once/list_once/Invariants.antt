use Rattle.gm_immediate.proofs.OnceLemmas.{AreListed}
use Rattle.gm_immediate.proofs.once.list_once.Given as goal

abbrev pub invariant-loop-p : goal.invariant-loop-p
invariant-loop-p l = AreListed l.list l.p-index l.once.items l.marks
