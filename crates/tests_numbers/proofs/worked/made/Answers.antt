use Rattle.tests_numbers.proofs.worked.made.Goals as goal

pub play-requires-clause-listed : goal.play-requires-clause-listed
play-requires-clause-listed g c = ((c.read_move.ensures c.in-Some.m).0 c.in-Some.is).0
