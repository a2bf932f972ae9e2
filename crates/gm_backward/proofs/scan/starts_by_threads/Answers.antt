use Rattle.gm_backward.proofs.Lower.{◌≡◌, ℕ, length, subst, AreStarts}
use Rattle.std.proofs.Common.{IfOk}
use Rattle.gm_backward.proofs.scan.starts_by_threads.Goals as goal

pub returns-clause-length : goal.returns-clause-length
returns-clause-length g c = subst (λ (t : ℕ). IfOk c.in_order_of.result (λ all. length all.items ≡ g.G.Game.rules.tier_size t))
    c.of-scan.ensures c.in_order_of.ensures.length

pub returns-clause-starts : goal.returns-clause-starts
returns-clause-starts g c = subst (λ (t : ℕ). IfOk c.in_order_of.result (λ all. AreStarts g.G.Game.rules t 0 all.items))
    c.of-scan.ensures c.in_order_of.ensures.starts
