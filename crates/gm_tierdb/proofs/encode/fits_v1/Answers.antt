use Rattle.gm_tierdb.proofs.Lower.{rules}
use Rattle.gm_game.specs.declared.position.Phase.TheVariants.{WinLose, Ties}
use Rattle.gm_table.specs.declared.version.TheConstants.{REMOTENESS_1}
use Rattle.gm_tierdb.proofs.LimitLemmas.{within_both, within_greatest}
use Rattle.gm_tierdb.proofs.encode.fits_v1.Goals as goal

pub returns-then-is_within : goal.returns-then-is_within
returns-then-is_within g c =
    let records = c.args.table.now.records in
    let lower = c.greatest.ensures.value in
    let tied = c.greatest-then-is_within.ensures.value in (
      λ yes. within_both REMOTENESS_1 records _ _ lower tied (c.is_within.ensures.0 c.if-is_within.true) (c.is_within-then-is_within.ensures.0 yes),
      λ up. c.is_within-then-is_within.ensures.1 (within_greatest REMOTENESS_1 Ties records _ tied up),
    )

pub returns-else-is_within : goal.returns-else-is_within
returns-else-is_within g c = (
  λ yes. absurd (let none : ⊥ = search rules in none),
  λ up. c.is_within.ensures.1 (within_greatest REMOTENESS_1 WinLose c.args.table.now.records _ c.greatest.ensures.value up),
)
