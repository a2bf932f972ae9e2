use Rattle.gm_pieces.specs.Common.{arith}
use Rattle.gm_squares.specs.laws.ReachFacts.{open_on, open_off}
use Rattle.gm_squares.proofs.attacks.open_squares.Goals as goal

pub returns-in-Some : goal.returns-in-Some
returns-in-Some c k l =
    open_on c.args.queen c.args.from c.args.to c.in-Some.line _ k c.requires.from c.requires.to c.requires.apart l (omega arith) c.in-Some.ensures (c.between.ensures k l)

pub returns-in-None : goal.returns-in-None
returns-in-None c k l = open_off c.args.queen c.args.from c.args.to k c.requires.from c.requires.to c.requires.apart c.in-None.ensures
