use Rattle.gm_table.proofs.Lower.{ℕ, subst}
use Rattle.gm_table.specs.Checks.{IsFirstWrongIn}
use Rattle.gm_table.proofs.CheckLemmas.{first_of_all}
use Rattle.gm_table.proofs.blocks.first_wrong.Goals as goal

pub returns : goal.returns
returns g c =
    let r = g.G.Game.rules in
    let records = g.C.Records.listed c.args.records.now in
    let whole = subst (λ (n : ℕ). IsFirstWrongIn r c.args.tables.now c.args.tier records 0 n c.first_between.result) c.count.ensures
    c.first_between.ensures.value in
    first_of_all r c.args.tables.now c.args.tier records c.first_between.result whole
