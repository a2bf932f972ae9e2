use Rattle.gm_toys.proofs.Lower.{rules}
use Rattle.std.specs.Fmt.{digits}
use Rattle.gm_toys.specs.Pictures.{takeaway_picture}
use Rattle.gm_draw.specs.Points.{number_points}
use Rattle.gm_toys.proofs.picture.TakeawayPictured.picture.Goals as goal

pub returns : goal.returns
unfolding takeaway_picture number_points digits
returns c = search rules
