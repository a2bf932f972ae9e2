use Rattle.gm_pieces.proofs.Lower.{arith}
use Rattle.gm_pieces.specs.laws.TriedFacts.{all_below}
use Rattle.gm_pieces.proofs.candidates.Candidates.below.Goals as goal

pub returns : goal.returns
returns c p = let f = c.ranges.bound.fits in rw c.one.ensures (all_below p c.args.bound (omega (arith, f)))
