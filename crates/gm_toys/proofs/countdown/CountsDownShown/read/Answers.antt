use Rattle.std.proofs.Common.{not, nat_eq}
use Rattle.gm_toys.specs.laws.DownLaws.{name_of, most_of}
use Rattle.gm_toys.proofs.Reading.{number_read}
use Rattle.gm_toys.proofs.countdown.CountsDownShown.read.Goals as goal

pub returns : goal.returns
returns g c p =
    let two = not (nat_eq g.row.TWO 0) in
    number_read (name_of two) (most_of two) g.row.N c.from.result c.args.text.now c.read_number.result c.in_ok-index.index c.from.ensures c.read_number.ensures
    c.in_ok-index.was p
