use Rattle.gm_counters.proofs.Lower.{◌-◌, ◌++◌, ◌∷◌, [], sym, ap, ◌∙◌, true≢false}
use Rattle.gm_counters.proofs.ShardLemmas.{quiet, room_there, pushed}
use Rattle.gm_counters.proofs.ordered.OrderedShard.deliver_new.Goals as goal

pub push-requires : goal.push-requires
push-requires g c =
    room_there g.G.Game.rules c.args.note.now c.args.parent c.self.inside.children c.deliver_new-answer.new.self c.deliver_new-answer.result
    c.deliver_new-answer.ensures (c.has_settled.ensures.0 c.if-has_settled.true) c.range-lo.ensures.good c.range-good.ensures.good c.self.inside.queue
    c.self.inside.ties c.self.invariant

pub invariant_of-self : goal.invariant_of-self
invariant_of-self g c =
    let q = c.self.inside.queue in
    pushed g.G.Game.rules c.args.note.now c.args.parent c.self.inside.children c.deliver_new-answer.new.self c.deliver_new-answer.result
    c.deliver_new-answer.ensures (c.has_settled.ensures.0 c.if-has_settled.true) c.range-lo.ensures.good c.range-good.ensures.good q
    c.self.inside.ties c.self.invariant c.push.new.self
    (c.push.ensures.items ∙ ap (λ n. q.indexes ++ (c.args.parent - n) ∷ []) c.range-lo.ensures.lo) c.push.ensures.from c.push.ensures.to c.push.ensures.room

pub invariant_of-self-else-has_settled : goal.invariant_of-self-else-has_settled
invariant_of-self-else-has_settled g c =
    quiet g.G.Game.rules c.args.note.now c.args.parent c.self.inside.children c.deliver_new-answer.new.self c.deliver_new-answer.result
    c.deliver_new-answer.ensures (λ e. true≢false (sym (c.has_settled.ensures.1 e) ∙ c.if-has_settled.false))
    c.range-lo.ensures.good c.range-good.ensures.good c.self.inside.queue c.self.inside.ties c.self.invariant
