use Rattle.gamesman.proofs.Reached.{reached_held}
use Rattle.gamesman.proofs.from_tables.known_at.Goals as goal

pub invariant_of-result : goal.invariant_of-result
invariant_of-result g c = record {
  legal = c.requires.legal;
  held = reached_held g.G.Game.rules c.args.built.now.tables c.args.built.now.order c.args.position.tier c.requires.order c.requires.held;
}
