use Rattle.gm_pieces.specs.Common.{refl}
use Rattle.gm_squares.specs.laws.ChaseNumbering.{each_canonical}
use Rattle.gm_squares.proofs.foxhounds.FoxRulesMoveRules.is_canonical.Goals as goal

pub returns : goal.returns
returns c = (λ w. each_canonical c.args._p.tier c.args._p.index c.requires.below, λ w. refl)
