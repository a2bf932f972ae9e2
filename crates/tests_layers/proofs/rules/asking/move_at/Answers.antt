use Rattle.tests_layers.proofs.rules.asking.move_at.Goals as goal

pub move_text-requires-clause-listed : goal.move_text-requires-clause-listed
move_text-requires-clause-listed g c = ((c.read_move.ensures c.in-Some.m).0 c.in-Some.is).0
