use Rattle.gm_draw.proofs.Lower.{length}
use Rattle.gm_draw.proofs.chessboard.+man_on.Given as goal

abbrev pub decreases-man_on : goal.decreases-man_on
decreases-man_on l = length l.text.now
