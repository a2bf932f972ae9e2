use Rattle.gm_solver.proofs.Lower.{ℕ, sym, ap, subst, ◌∙◌, REMOTENESS, Place, IsNumberBefore}
use Rattle.std.proofs.lemmas.Result.{err_from_is_err_and}
use Rattle.gm_table.specs.Tables.{AreHeld}
use Rattle.gm_game.specs.Records.{IsTrueTable}
use Rattle.gm_solver.proofs.passes.solve_by_passes.Goals as goal

pub finish_levels-requires-clause-held : goal.finish_levels-requires-clause-held
finish_levels-requires-clause-held g c κs bounds = subst (AreHeld g.G.Game.rules c.args.tables.now)
    (sym (ap (λ (p : Place). p.tier) c.in_ok-tiles.ensures.place)) c.requires.held

pub finish_levels-requires-2-clause-held : goal.finish_levels-requires-2-clause-held
finish_levels-requires-2-clause-held g c κs bounds = subst (AreHeld g.G.Game.rules c.args.tables.now)
    (sym (ap (λ (p : Place). p.tier) c.next_phase.ensures ∙ c.in_ok-tiles-2.ensures.later.tier ∙ ap (λ (p : Place). p.tier) c.in_ok-tiles.ensures.place))
    c.requires.held

pub returns-in_err-records-clause-error : goal.returns-in_err-records-clause-error
returns-in_err-records-clause-error g c =
    let p = err_from_is_err_and c.from_residual-in_err-records.result c.from_residual-in_err-records.ensures.1 in
    rw (p.1, p.2) tt

pub finish-requires-clause-last : goal.finish-requires-clause-last
finish-requires-clause-last g c κs bounds = c.in_ok-tiles-3.ensures.last

pub finish-requires-clause-ties : goal.finish-requires-clause-ties
finish-requires-clause-ties g c κs bounds = c.in_ok-tiles-3.ensures.later.phase ∙ ap (λ (p : Place). p.phase) c.next_phase.ensures

pub table_of-table-requires-clause-tier_is : goal.table_of-table-requires-clause-tier_is
table_of-table-requires-clause-tier_is g c = ap (λ (p : Place). p.tier) c.in_ok-tiles-3.ensures.last ∙ c.in_ok-tiles-3.ensures.later.tier ∙ ap (λ (p : Place). p.tier) c.next_phase.ensures ∙ c.in_ok-tiles-2.ensures.later.tier
    ∙ ap (λ (p : Place). p.tier) c.in_ok-tiles.ensures.place

pub table_of-table-requires-clause-ties : goal.table_of-table-requires-clause-ties
table_of-table-requires-clause-ties g c = ap (λ (p : Place). p.phase) c.in_ok-tiles-3.ensures.last ∙ c.in_ok-tiles-3.ensures.later.phase
    ∙ ap (λ (p : Place). p.phase) c.next_phase.ensures

pub table_of-table-requires-clause-records : goal.table_of-table-requires-clause-records
table_of-table-requires-clause-records g c = subst (λ (t : ℕ). IsTrueTable g.G.Game.rules REMOTENESS t c.in_ok-records.records)
    (c.in_ok-tiles-3.ensures.later.tier ∙ ap (λ (p : Place). p.tier) c.next_phase.ensures ∙ c.in_ok-tiles-2.ensures.later.tier
    ∙ ap (λ (p : Place). p.tier) c.in_ok-tiles.ensures.place) c.in_ok-records.ensures

pub table_of-table-requires-clause-number : goal.table_of-table-requires-clause-number
table_of-table-requires-clause-number g c =
    let r = g.G.Game.rules in
    subst (λ (p : Place). IsNumberBefore r p.tier 0 (r.tier_size p.tier) p.phase p.level c.number-number.result) (sym c.in_ok-tiles-3.ensures.last)
    c.number-number.ensures
