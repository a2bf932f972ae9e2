use Rattle.gm_board.proofs.Lower.{◌<◌, length, [], refl, arith}
use Rattle.gm_board.specs.declared.pascal.TheConstants.{ROWS}
use Rattle.gm_board.proofs.PascalRows.{triangle_is}
use Rattle.gm_board.proofs.pascal.binomial.Goals as goal

pub returns-clause-value : goal.returns-clause-value
returns-clause-value c =
    let below : c.args.n < length ROWS = omega arith in
    (triangle_is ROWS refl c.args.n [] below).entries c.args.k (omega arith)
