use Rattle.gm_play.proofs.Reaching.{held_from}
use Rattle.gm_play.proofs.known.Known.at.Goals as goal

pub invariant_of-result : goal.invariant_of-result
invariant_of-result g c =
    let known = c.args.self.now in
    record {
      legal = c.requires.0;
      held = held_from g.G.Game.rules known.tables.now known.position.tier c.args.position known.held c.requires;
    }
