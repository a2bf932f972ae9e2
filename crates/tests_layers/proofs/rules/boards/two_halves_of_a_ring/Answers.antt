use Rattle.std.proofs.Common.{refl, arith}
use Rattle.std.specs.Int.Count.{ones}
use Rattle.tests_layers.proofs.rules.boards.two_halves_of_a_ring.Goals as goal

pub index-requires : goal.index-requires
unfolding ones
index-requires g c = record { mine_within = omega arith; theirs_within = omega arith; apart = refl; mine_number = refl; their_number = refl }
