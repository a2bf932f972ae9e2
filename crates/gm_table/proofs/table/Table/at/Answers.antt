use Rattle.gm_table.proofs.Lower.{ap, sym, subst, ◌∙◌, REMOTENESS, at, IsTrueValue, IsRecord, record_at, IsTable}
use Rattle.gm_table.proofs.ValueLemmas.{record_is}
use Rattle.gm_table.proofs.table.Table.at.Goals as goal

pub returns-clause-value : goal.returns-clause-value
returns-clause-value g c = c.get.ensures ∙ ap (λ t. record_at t.records c.args.index) c.self.view_is

pub returns-clause-table : goal.returns-clause-table
returns-clause-table g c = subst (IsTable g.G.Game.rules) c.self.view_is c.self.invariant.table

pub returns-clause-is_true : goal.returns-clause-is_true
returns-clause-is_true g c =
    let r = g.G.Game.rules in
    let t = c.args.self.now in
    subst (IsRecord r REMOTENESS (IsTrueValue r) (at t.tier c.args.index)) (sym (returns-clause-value g c))
    (record_is r g.met.G.Game.lawful t c.args.index (returns-clause-table g c))
