use Rattle.gm_pieces.specs.Common.{arith}
use Rattle.gm_squares.specs.laws.LineFacts.{left_out, left_along}
use Rattle.gm_squares.proofs.lines.along.Goals as goal

pub past-requires-clause-apart : goal.past-requires-clause-apart
past-requires-clause-apart c = left_out c.args.line c.args.from _ c.requires (omega arith) c.square_mask.ensures

pub past-requires-2-clause-apart : goal.past-requires-2-clause-apart
past-requires-2-clause-apart c = left_out c.args.line c.args.from _ c.requires (omega arith) c.square_mask.ensures

pub returns : goal.returns
returns c k l =
    left_along c.args.line c.args.from c.args.first c.args.second _ _ _ k c.requires l (omega arith) (omega arith) (omega arith) c.square_mask.ensures
    (c.past.ensures k l) (c.past-2.ensures k l)
