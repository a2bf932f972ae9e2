use Rattle.gm_counters.proofs.Lower.{take, AreNotesAt}
use Rattle.gm_counters.proofs.ordered.notes_at.Given as goal

abbrev pub invariant-loop-index : goal.invariant-loop-index
invariant-loop-index g l = AreNotesAt g.G.Game.rules l.children (take l.index-index l.indexes) l.notes.items
