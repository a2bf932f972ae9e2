use Rattle.std.specs.Prelude.{◌<◌, ◌^◌, length}
use Rattle.gm_pieces.specs.inner.Marking.{places}
use Rattle.gm_squares.specs.laws.PawnMarks.{passes}
use Rattle.gm_squares.specs.laws.TestedPlaces.{AreMarkedBut}
use Rattle.gm_squares.proofs.pawn_marks.tested_places.Given as goal

abbrev pub invariant-loop-left : goal.invariant-loop-left
invariant-loop-left l = record { within : l.marks < 2 ^ l.run.count; marked : AreMarkedBut (passes l.tier l.board) l.run l.left l.marks }

abbrev pub decreases-loop-left : goal.decreases-loop-left
decreases-loop-left l = length (places l.left)
