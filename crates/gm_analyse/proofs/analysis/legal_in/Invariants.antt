use Rattle.gm_analyse.proofs.Lower.{◌≡◌, count_where}
use Rattle.gm_analyse.specs.Numbers.{is_legal_at}
use Rattle.gm_analyse.proofs.analysis.legal_in.Given as goal

abbrev pub invariant-loop-index : goal.invariant-loop-index
invariant-loop-index g l = l.number ≡ count_where (is_legal_at g.G.Game.rules l.table.tier) l.index
