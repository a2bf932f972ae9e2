use Rattle.gm_counters.proofs.Lower.{arith}
use Rattle.gm_game.proofs.ChildrenLemmas.{canonical_children_few}
use Rattle.gm_counters.proofs.begin.start_of_canonical.Goals as goal

pub overflow_cast-result : goal.overflow_cast-result
overflow_cast-result g c =
    let few = canonical_children_few g.G.Game.rules g.met.G.Game.lawful c.args.p c.requires.0 in
    let n = c.count_children.ensures in
    omega (arith, few, n)
