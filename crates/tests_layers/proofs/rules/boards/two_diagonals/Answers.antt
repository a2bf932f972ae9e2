use Rattle.std.proofs.Common.{refl, arith}
use Rattle.std.specs.Int.Count.{ones}
use Rattle.tests_layers.proofs.rules.boards.two_diagonals.Goals as goal

pub index-index-requires : goal.index-index-requires
unfolding ones
index-index-requires g c = record { mine_within = omega arith; theirs_within = omega arith; apart = refl; mine_number = refl; their_number = refl }
