use Rattle.gamesman.proofs.Sheeted.{no_lines}
use Rattle.gamesman.proofs.list.list_of.Goals as goal

pub push_lines-requires : goal.push_lines-requires
push_lines-requires c = no_lines c.args.all _ c.new.ensures.items c.new-2.ensures.items
