use Rattle.gm_play.proofs.Held.{held_own, held_children}
use Rattle.gm_play.proofs.known.Known.best_move.Goals as goal

pub best_of-requires : goal.best_of-requires
best_of-requires g c =
    let known = c.args.self.now in
    record {
      legal = known.legal;
      own = held_own g.G.Game.rules known.tables.now known.position.tier known.held;
      children = held_children g.G.Game.rules known.tables.now known.position.tier known.held;
    }
