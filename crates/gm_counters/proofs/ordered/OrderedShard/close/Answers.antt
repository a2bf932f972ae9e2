use Rattle.gm_counters.proofs.Lower.{sym, subst, IsWhole}
use Rattle.gm_counters.proofs.ShardLemmas.{closed}
use Rattle.gm_counters.proofs.ordered.OrderedShard.close.Goals as goal

pub invariant_of-self : goal.invariant_of-self
invariant_of-self g c =
    closed g.G.Game.rules c.self.inside.children c.close.new.self c.self.inside.queue c.advance.new.self c.self.inside.ties c.close.ensures
    c.self.invariant c.advance.ensures

pub close-requires-clause-whole : goal.close-requires-clause-whole
close-requires-clause-whole g c = subst (IsWhole g.G.Game.rules) (sym c.self.view_is) c.requires.whole
