use Rattle.gm_play.proofs.Reaching.{reached_by}
use Rattle.gm_play.proofs.known.Known.play.Goals as goal

pub at-requires : goal.at-requires
at-requires g c = reached_by g.G.Game.rules g.met.G.Game.lawful c.args.self.now.position c.args.number c.args.self.now.legal c.requires c.play.result
    c.play.ensures
