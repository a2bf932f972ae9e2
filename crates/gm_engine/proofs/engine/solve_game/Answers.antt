use Rattle.gm_engine.proofs.Lower.{rules, ℕ, List, length, sym, subst}
use Rattle.gm_tiers.specs.Orders.{IsTierOrder, ComeChildrenFirst}
use Rattle.gm_engine.proofs.Refused.{unroomed_game}
use Rattle.gm_engine.proofs.engine.solve_game.Goals as goal

pub solve_tiers-requires-clause-children_first : goal.solve_tiers-requires-clause-children_first
solve_tiers-requires-clause-children_first g c =
    subst (λ (v : List ℕ). ComeChildrenFirst g.G.Game.rules v) (sym c.tiers-2.ensures.value) c.in_ok-tiers.ensures.children_first

pub returns-in_err-put_bytes-clause-refused : goal.returns-in_err-put_bytes-clause-refused
returns-in_err-put_bytes-clause-refused g c =
    let r = g.G.Game.rules in
    let order = subst (λ (v : List ℕ). IsTierOrder r v) (sym c.tiers-2.ensures.value) c.in_ok-tiers.ensures.order in
    let (is, other) = c.in_err-put_bytes.ensures.refused in
    let why = unroomed_game r c.args.width (length c.args.order.now) (length c.args.out.now) c.tiers-2.result.now c.in_ok-bytes.bytes.items order c.in_ok-bytes.ensures.known
    c.in_err-put_bytes.field-0.0 is other in
    search rules
