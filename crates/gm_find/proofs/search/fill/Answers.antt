use Rattle.gm_find.proofs.Lower.{◌∙◌, [], sym, ap}
use Rattle.gm_find.proofs.Searching.{begins, last_legal, all_searched}
use Rattle.gm_find.proofs.search.fill.Goals as goal

pub loop-init : goal.loop-init
loop-init g c =
    let r = g.G.Game.rules in
    c.in_ok-find.ensures [] (rw (c.requires.found, c.requires.waiting)
    (begins r g.met.G.Game.lawful c.canonical.result (c.canonical.ensures ∙ ap r.canonical c.initial.ensures)))

pub returns-in-None : goal.returns-in-None
returns-in-None g c = all_searched g.G.Game.rules g.met.G.Game.lawful c.loop.found.keys c.loop.waiting.items c.loop.invariant
    (sym c.loop.waiting.ok.0 ∙ c.in-None.ensures.cases.0)

pub find_children-requires : goal.find_children-requires
find_children-requires g c =
    last_legal g.G.Game.rules g.met.G.Game.lawful c.loop.found.keys c.pop.new.self.items c.in-Some.p (rw c.in-Some.ensures.items at c.loop.invariant)

pub loop-preserved : goal.loop-preserved
loop-preserved g c = c.in_ok-find_children-in-Some.ensures (rw c.in-Some.ensures.items at c.loop.invariant)
