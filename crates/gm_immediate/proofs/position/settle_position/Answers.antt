use Rattle.gm_immediate.proofs.Lower.{◌∙◌, arith}
use Rattle.gm_immediate.proofs.Deliveries.{deliveries_outer}
use Rattle.gm_immediate.proofs.position.settle_position.Goals as goal

pub returns-in-Some-clause-number : goal.returns-in-Some-clause-number
returns-in-Some-clause-number g c = deliveries_outer g.G.Game.rules c.args.p (λ inner. let a = c.requires.end in let b = inner.unended in
    let e = c.in-Some.is in cc)

pub settle_inner-requires : goal.settle_inner-requires
settle_inner-requires g c = (
  omega arith,
  (
    record { legal = c.requires.canonical.0; canonical = c.requires.canonical.1; unended = c.requires.end ∙ c.in-None.is },
    (c.requires.results c.in-None.is, (c.requires.held, c.requires.own)),
  ),
)
