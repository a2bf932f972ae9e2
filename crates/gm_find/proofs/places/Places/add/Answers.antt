use Rattle.gm_find.proofs.Spreading.{key_put}
use Rattle.gm_find.proofs.places.Places.add.Goals as goal

pub returns-in-Ok : goal.returns-in-Ok
returns-in-Ok c = key_put c.args.self.now.set.keys c.insert.new.self.keys c.args.p c.in-Ok.field-0 c.in-Ok.ensures.keys c.in-Ok.ensures.added
