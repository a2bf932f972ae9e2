use Rattle.gm_squares.specs.laws.HoundFacts.{near}
use Rattle.gm_squares.proofs.hounds.near_at.Goals as goal

pub returns-clause-below : goal.returns-clause-below
returns-clause-below c = (near c.args.number c.requires).0

pub returns-clause-low : goal.returns-clause-low
returns-clause-low c = (near c.args.number c.requires).1
