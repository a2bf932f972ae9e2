use Rattle.gm_shard.proofs.Lower.{length}
use Rattle.gm_shard.proofs.MaskedLemmas.{tells_none}
use Rattle.gm_shard.proofs.shard.Shard.begin.Goals as goal

pub invariant_of-result : goal.invariant_of-result
invariant_of-result g c = tells_none g.G.Game.rules c.args.tier c.args.lo (length c.args.starts.now) c.in_ok-order.order c.in_ok-masks.masks.items
    c.in_ok-order.ensures (c.in_ok-masks.ensures.items_if_clones_equal (λ y e. e))
