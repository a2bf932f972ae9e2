use Rattle.gm_toys.proofs.Lower.{sym, refl, arith, at, same_position}
use Rattle.gm_toys.specs.Stairs.{stairs}
use Rattle.gm_toys.specs.laws.StairsLaws.{stairs_legal_in, stairs_legal_from}
use Rattle.gm_toys.proofs.Reading.{position_read}
use Rattle.gm_toys.proofs.stairs.StairsShown.read.Goals as goal

pub returns : goal.returns
returns g c p =
    let n = g.row.N in
    let last = c.from.ensures in
    position_read (stairs n) (λ p. p.tier) (λ t. at t 0) c.from.result c.args.text.now c.read_number.result c.in_ok-tier.tier
    c.read_number.ensures c.in_ok-tier.was
    (λ k l. (stairs_legal_from n k 0 (omega arith) refl, refl))
    (λ q l. let (le, i) = stairs_legal_in n q l in (omega arith, same_position (at q.tier 0) q refl (sym i))) p
