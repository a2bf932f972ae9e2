use Rattle.gm_play.proofs.Saying.{value_known}
use Rattle.gm_play.proofs.turns.place_line.Goals as goal

pub returns : goal.returns
returns g c k known =
    cc (value_known g.G.Game.rules k c.args.known.now.position c.value-solved.result c.args.known.now.legal known c.value-solved.ensures.value)
