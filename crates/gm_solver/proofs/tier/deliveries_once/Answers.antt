use Rattle.gm_table.specs.Solving.{IsDelivery}
use Rattle.gm_solver.proofs.FullLemmas.{there_once}
use Rattle.gm_solver.proofs.tier.deliveries_once.Goals as goal

pub returns : goal.returns
returns g c m n = there_once (IsDelivery g.G.Game.rules c.args.tier) m n
