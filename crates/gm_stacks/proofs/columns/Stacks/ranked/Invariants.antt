use Rattle.gm_board.specs.Masks.{has_cell}
use Rattle.gm_stacks.specs.Heights.{unrank_heights}
use Rattle.gm_stacks.proofs.ColumnSteps.{IsRanking}
use Rattle.gm_stacks.proofs.columns.Stacks.ranked.Given as goal

abbrev pub invariant-loop-column : goal.invariant-loop-column
invariant-loop-column l = IsRanking l.self.columns l.self.rows l.self.middle (has_cell l.taken) l.column l.middle.rows l.outer.rows
    (unrank_heights l.middle.rows l.middle.columns l.middle.pieces l.middle.rank) (unrank_heights l.outer.rows l.outer.columns l.outer.pieces l.outer.rank)
