use Rattle.gm_table.proofs.Lower.{subst, CacheData, AreTables}
use Rattle.gm_table.proofs.cache.TableCache.sum.Goals as goal

pub returns-in-Some-clause-tables : goal.returns-in-Some-clause-tables
returns-in-Some-clause-tables g c = subst (λ (k : CacheData). AreTables g.G.Game.rules k.tables) c.self.view_is c.truth.ensures

pub returns-in-None-clause-tables : goal.returns-in-None-clause-tables
returns-in-None-clause-tables g c = subst (λ (k : CacheData). AreTables g.G.Game.rules k.tables) c.self.view_is c.truth.ensures
