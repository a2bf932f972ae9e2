use Rattle.gm_counters.proofs.Lower.{ap, ◌∙◌, ShardState}
use Rattle.gm_counters.proofs.ShardLemmas.{turned}
use Rattle.gm_counters.proofs.ordered.OrderedShard.next_phase.Goals as goal

pub invariant_of-self : goal.invariant_of-self
invariant_of-self g c =
    turned g.G.Game.rules c.self.inside.children c.next_phase.new.self c.self.inside.queue c.self.inside.ties c.swap.new.x c.swap.new.y c.next_phase.ensures
    (ap (λ (s : ShardState). s.phase) c.self.view_is ∙ c.requires.phase) c.self.invariant c.swap.ensures.x_after
