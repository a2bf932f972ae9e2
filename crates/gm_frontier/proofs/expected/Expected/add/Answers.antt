use Rattle.gm_frontier.proofs.Lower.{sym, subst, ◌+◌, arith, Some, Place, IsExpected}
use Rattle.gm_frontier.proofs.ExpectedLemmas.{level_added_to, expected_fits, shown}
use Rattle.gm_frontier.proofs.expected.Expected.add.Goals as goal

pub overflow_add-self : goal.overflow_add-self
overflow_add-self g c =
    let e = c.self.inside in
    let added = level_added_to g.G.Game.rules g.met.G.Game.lawful e.tier e.lo e.hi e.last e.phase e.number c.self.invariant c.args.self.now c.self.view_is
    c.args.level.now c.place-place.ensures.level c.requires c.number_into.result c.number_into.ensures in
    let fits = expected_fits g.G.Game.rules g.met.G.Game.lawful _ added in
    omega arith

pub invariant_of-self : goal.invariant_of-self
invariant_of-self g c =
    let e = c.self.inside in
    subst (λ (p : Place). IsExpected g.G.Game.rules (shown e.tier e.lo e.hi (Some p) e.phase (e.number + c.number_into.result)))
    (sym c.place-place.ensures.value)
    (level_added_to g.G.Game.rules g.met.G.Game.lawful e.tier e.lo e.hi e.last e.phase e.number c.self.invariant c.args.self.now c.self.view_is
    c.args.level.now c.place-place.ensures.level c.requires c.number_into.result c.number_into.ensures)
