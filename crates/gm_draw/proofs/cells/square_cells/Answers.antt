use Rattle.std.proofs.Common.{refl}
use Rattle.gm_draw.specs.Points.{square_points}
use Rattle.gm_draw.proofs.cells.square_cells.Goals as goal

pub returns-in-5 : goal.returns-in-5
unfolding square_points
returns-in-5 c = rw c.in-5.is refl

pub returns-in-4 : goal.returns-in-4
unfolding square_points
returns-in-4 c = rw c.in-4.is refl

pub returns-in-3 : goal.returns-in-3
unfolding square_points
returns-in-3 c = rw c.in-3.is refl
