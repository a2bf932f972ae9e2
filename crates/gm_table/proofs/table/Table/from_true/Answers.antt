use Rattle.gm_table.proofs.Lower.{None, Some}
use Rattle.gm_table.proofs.table.Table.from_true.Goals as goal

pub of-requires : goal.of-requires
of-requires g c i None e = tt
of-requires g c i (Some s) e = (c.requires.is_true.each i (Some s) e).2
