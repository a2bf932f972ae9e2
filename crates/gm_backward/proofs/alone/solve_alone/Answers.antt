use Rattle.gm_backward.proofs.Lower.{ℕ, sym, ap, subst, ◌∙◌, REMOTENESS, Place, AreHeld, IsTrueTable, IsNumberBefore}
use Rattle.gm_backward.proofs.alone.solve_alone.Goals as goal

pub finish_levels-requires : goal.finish_levels-requires
finish_levels-requires g c = subst (AreHeld g.G.Game.rules c.args.tables.now) (sym (ap (λ (p : Place). p.tier) c.in_ok-tiles.ensures.place)) c.requires.held

pub finish_levels-requires-2 : goal.finish_levels-requires-2
finish_levels-requires-2 g c = subst (AreHeld g.G.Game.rules c.args.tables.now)
    (sym (ap (λ (p : Place). p.tier) c.next_phase.ensures ∙ c.in_ok-tiles-2.ensures.later.tier ∙ ap (λ (p : Place). p.tier) c.in_ok-tiles.ensures.place))
    c.requires.held

pub records_of-requires-clause-last : goal.records_of-requires-clause-last
records_of-requires-clause-last g c = c.in_ok-tiles-3.ensures.last

pub records_of-requires-clause-ties : goal.records_of-requires-clause-ties
records_of-requires-clause-ties g c = c.in_ok-tiles-3.ensures.later.phase ∙ ap (λ (p : Place). p.phase) c.next_phase.ensures

pub table_of-requires-clause-tier_is : goal.table_of-requires-clause-tier_is
table_of-requires-clause-tier_is g c = ap (λ (p : Place). p.tier) c.in_ok-tiles-3.ensures.last ∙ c.in_ok-tiles-3.ensures.later.tier ∙ ap (λ (p : Place). p.tier) c.next_phase.ensures ∙ c.in_ok-tiles-2.ensures.later.tier
    ∙ ap (λ (p : Place). p.tier) c.in_ok-tiles.ensures.place

pub table_of-requires-clause-ties : goal.table_of-requires-clause-ties
table_of-requires-clause-ties g c = ap (λ (p : Place). p.phase) c.in_ok-tiles-3.ensures.last ∙ c.in_ok-tiles-3.ensures.later.phase
    ∙ ap (λ (p : Place). p.phase) c.next_phase.ensures

pub table_of-requires-clause-records : goal.table_of-requires-clause-records
table_of-requires-clause-records g c = subst (λ (t : ℕ). IsTrueTable g.G.Game.rules REMOTENESS t c.in_ok-records.records)
    (c.in_ok-tiles-3.ensures.later.tier ∙ ap (λ (p : Place). p.tier) c.next_phase.ensures ∙ c.in_ok-tiles-2.ensures.later.tier
    ∙ ap (λ (p : Place). p.tier) c.in_ok-tiles.ensures.place) c.in_ok-records.ensures

pub table_of-requires-clause-number : goal.table_of-requires-clause-number
table_of-requires-clause-number g c =
    let r = g.G.Game.rules in
    subst (λ (p : Place). IsNumberBefore r p.tier 0 (r.tier_size p.tier) p.phase p.level c.number-number.result) (sym c.in_ok-tiles-3.ensures.last)
    c.number-number.ensures
