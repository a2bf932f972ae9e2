use Rattle.gm_toys.proofs.Lower.{refl}
use Rattle.gm_toys.specs.Takeaway.{takeaway_name}
use Rattle.gm_toys.proofs.Reading.{number_read}
use Rattle.gm_toys.proofs.takeaway.TakeawayShown.read.Goals as goal

pub returns : goal.returns
returns c p = number_read takeaway_name 3 12 12 c.args.text.now c.read_number.result c.in_ok-index.index refl c.read_number.ensures c.in_ok-index.was p
