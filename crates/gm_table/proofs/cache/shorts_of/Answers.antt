use Rattle.gm_table.proofs.Lower.{option_copied, ap}
use Rattle.gm_table.proofs.cache.shorts_of.Goals as goal

pub returns-in-Some : goal.returns-in-Some
returns-in-Some g c i l = (c.in-Some.table.now, ap option_copied c.in-Some.is, c.shorts.ensures i l)
