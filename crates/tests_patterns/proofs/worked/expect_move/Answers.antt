use Rattle.tests_patterns.proofs.worked.expect_move.Goals as goal

pub play-requires-clause-listed : goal.play-requires-clause-listed
play-requires-clause-listed g c = ((c.read_move.ensures c.in-Some-read_move.number).0 c.in-Some-read_move.is).0
