use Rattle.gm_toys.proofs.Lower.{arith, range_in}
use Rattle.gm_toys.proofs.countdown.CountsDownGame.play.Goals as goal

pub overflow_sub-result : goal.overflow_sub-result
overflow_sub-result g c = let (low, high) = range_in 1 _ c.args.m c.requires.listed in omega arith
