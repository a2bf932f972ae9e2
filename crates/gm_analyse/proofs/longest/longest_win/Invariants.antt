use Rattle.gm_analyse.specs.LongestWins.{IsLongestWin}
use Rattle.gm_analyse.proofs.longest.longest_win.Given as goal

abbrev pub invariant-loop-index : goal.invariant-loop-index
invariant-loop-index g l = IsLongestWin l.table.records l.index l.longest
