use Rattle.gm_engine.proofs.Closing.{closed_more, held_too}
use Rattle.gm_engine.proofs.engine.hold.Goals as goal

pub returns-in-Ok : goal.returns-in-Ok
returns-in-Ok g c = record {
  closed = closed_more c.args.tables.now c.insert.new.self c.args.table c.in-Ok.ensures.ok g.G.Game.rules c.requires.closed c.requires.children;
  held = λ t which. (held_too c.args.tables.now c.insert.new.self c.args.table c.in-Ok.ensures.ok t).1 which;
  refused = tt;
}
