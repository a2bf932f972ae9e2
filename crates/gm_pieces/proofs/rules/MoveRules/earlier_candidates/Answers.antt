use Rattle.gm_pieces.proofs.Lower.{sym}
use Rattle.gm_pieces.proofs.rules.MoveRules.earlier_candidates.Goals as goal

pub returns : goal.returns
returns g c = rw (sym c.move_number_bound.ensures) (c.below.ensures _)
