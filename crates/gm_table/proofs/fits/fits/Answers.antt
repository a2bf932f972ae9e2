use Rattle.gm_table.proofs.Lower.{◌∙◌, arith}
use Rattle.gm_table.proofs.fits.fits.Goals as goal

pub follows-requires : goal.follows-requires
follows-requires g c = (
  omega arith,
  (
    omega arith,
    (
      record { legal = c.requires.canonical.0; canonical = c.requires.canonical.1; unended = c.requires.end ∙ c.in-None-Some.is-0 },
      c.requires.results c.in-None-Some.is-0,
    ),
  ),
)
