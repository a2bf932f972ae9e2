use Rattle.gm_table.proofs.Lower.{◌≡◌, ◌↔◌, true, sym, ap, ◌∙◌, subst, IsSome, IfSome, IsTrueValue, IsHeld, record_at}
use Rattle.gm_table.proofs.ValueLemmas.{value_read, value_known, value_true}
use Rattle.gm_table.proofs.tables.Tables.get.Goals as goal

pub returns-clause-value : goal.returns-clause-value
returns-clause-value g c =
    let t = c.in_ok-table.table.now in
    value_read g.G.Game.rules g.met.G.Game.lawful c.args.self.now c.args.p t c.at.result c.if-not-is_legal.ensures c.in_ok-table.ensures.value
    (c.at.ensures.value ∙ ap (λ q. record_at t.records q.index) c.canonical.ensures)

pub returns-clause-held : goal.returns-clause-held
returns-clause-held g c =
    let r = g.G.Game.rules in
    subst (λ o. IsSome o ↔ ((r.is_legal c.args.p ≡ true) × IsHeld c.args.self.now c.args.p.tier)) (sym (returns-clause-value g c))
    (value_known r g.met.G.Game.lawful c.args.self.now c.args.p c.in_ok-table.ensures.tables)

pub returns-clause-is_true : goal.returns-clause-is_true
returns-clause-is_true g c =
    let r = g.G.Game.rules in
    subst (λ o. IfSome o (IsTrueValue r c.args.p)) (sym (returns-clause-value g c))
    (value_true r g.met.G.Game.lawful c.args.self.now c.args.p c.in_ok-table.ensures.tables)
