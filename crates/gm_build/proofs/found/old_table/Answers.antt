use Rattle.gm_build.proofs.Lower.{rules}
use Rattle.gm_build.proofs.found.old_table.Goals as goal

pub returns-in-Ok-clause-tier : goal.returns-in-Ok-clause-tier
returns-in-Ok-clause-tier g c = c.true_table.ensures.tier

-- what the check of the records says, found by search
pub returns-in-Ok-clause-exact : goal.returns-in-Ok-clause-exact
returns-in-Ok-clause-exact g c = let checked = c.true_table.ensures.exact in search rules
