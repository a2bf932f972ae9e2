use Rattle.gm_backward.proofs.Lower.{subst, Place, IsLevel}
use Rattle.gm_backward.proofs.InOrderLemmas.{none_yet}
use Rattle.gm_backward.proofs.in_order.deliver_level.Goals as goal

pub deliver_rest-requires-clause-first : goal.deliver_rest-requires-clause-first
deliver_rest-requires-clause-first g c =
    let r = g.G.Game.rules in
    let notes = c.args.level.now.notes in
    none_yet r g.met.G.Game.lawful c.args.shard notes (subst (λ (p : Place). IsLevel r p notes) c.requires.place c.place-level.ensures.level) c.requires.none
