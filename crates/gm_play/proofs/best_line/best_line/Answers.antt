use Rattle.gm_play.proofs.Walking.{whole}
use Rattle.gm_play.proofs.best_line.best_line.Goals as goal

pub returns-clause-whole : goal.returns-clause-whole
returns-clause-whole g c = whole g.G.Game.rules c.args.start.now.position c.args.limit _ c.in_ok-end.ensures
