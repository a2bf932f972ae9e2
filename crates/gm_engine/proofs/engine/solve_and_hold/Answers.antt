use Rattle.gm_engine.proofs.Lower.{rules, ◌++◌, ◌∷◌, [], ℕ, List, subst, sym, AreTrueTiers}
use Rattle.std.proofs.Common.{Ok, Err, OnOk}
use Rattle.gm_engine.proofs.Refused.{unadded}
use Rattle.gm_engine.proofs.Trueness.{one_more, from_table}
use Rattle.gm_engine.proofs.engine.solve_and_hold.Goals as goal

pub returns-clause-known : goal.returns-clause-known
returns-clause-known g c tiers known =
    let r = g.G.Game.rules in
    let (more, is, same) = c.in_ok-add.ensures.added in
    let tier_is = from_table r c.args.width c.args.tier c.in_ok-table.table more c.in_ok-table.ensures.table c.in_ok-table.ensures.tier same in
    let all = one_more r c.args.width tiers c.args.bytes.now.items c.args.tier more known tier_is in
    let new = subst (λ (v : List ℕ). AreTrueTiers r c.args.width (tiers ++ c.args.tier ∷ []) v) (sym is) all in
    elim c.hold.result as (λ o. OnOk o (AreTrueTiers r c.args.width (tiers ++ c.args.tier ∷ []) c.add.new.bytes.items)) [ Ok u ↦ new | Err e ↦ tt ]

pub returns-in_err-add-clause-refused : goal.returns-in_err-add-clause-refused
returns-in_err-add-clause-refused g c =
    let why = unadded g.G.Game.rules c.args.width c.args.tables.now c.args.tier c.in_ok-table.table c.in_ok-table.ensures.table c.in_ok-table.ensures.tier
    c.in_err-add.field-0.0 c.in_err-add.ensures.refused in
    search rules
