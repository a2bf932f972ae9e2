use Rattle.gm_draw.proofs.Lower.{length}
use Rattle.gm_draw.proofs.marks.+named_from.Given as goal

abbrev pub decreases-named_from : goal.decreases-named_from
decreases-named_from l = length l.board.now
