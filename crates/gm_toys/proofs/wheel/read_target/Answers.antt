use Rattle.gm_toys.proofs.Lower.{arith}
use Rattle.gm_toys.proofs.wheel.read_target.Goals as goal

pub overflow_cast-target : goal.overflow_cast-target
overflow_cast-target c = let (low, same) = (c.read_number.ensures c.in_ok-target.field-0).0 c.in_ok-target.was in omega arith
