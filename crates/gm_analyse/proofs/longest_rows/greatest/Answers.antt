use Rattle.gm_analyse.proofs.Lower.{List, ℕ, length, subst, is_some, all_positions, IsLastAbove}
use Rattle.gm_analyse.specs.declared.among.Among.TheVariants.{Canonical}
use Rattle.gm_analyse.specs.Totals.{numbers_for}
use Rattle.gm_analyse.proofs.Reporting.{greatest_is}
use Rattle.gm_analyse.proofs.longest_rows.greatest.Goals as goal

pub returns : goal.returns
returns g c =
    greatest_is g.G.Game.rules Canonical (is_some c.args.reached) c.args.value (all_positions g.G.Game.rules c.args.known.now.tiers.now)
    (numbers_for c.args.value c.in_ok-numbers.numbers) (c.in_ok-numbers.ensures.numbers c.args.value) c.last_above.result
    (subst (λ (ns : List ℕ). IsLastAbove ns (length ns) c.last_above.result) c.of.ensures.numbers c.last_above.ensures)
