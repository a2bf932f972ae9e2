use Rattle.gm_engine.proofs.Lower.{rules, ℕ, List, take, sym, subst, take_more, AreTrueTiers}
use Rattle.gm_engine.proofs.Ordering.{have_more, in_order}
use Rattle.gm_engine.proofs.Refused.{unsolved_one}
use Rattle.gm_engine.proofs.engine.solve_tiers.Goals as goal

pub returns-in_err-solve_and_hold-clause-refused : goal.returns-in_err-solve_and_hold-clause-refused
returns-in_err-solve_and_hold-clause-refused g c =
    let r = g.G.Game.rules in
    let ts = c.args.tiers.now in
    let k = c.loop-tier.tier-index in
    let (closed, held, known) = c.loop-tier.invariant in
    let next = in_order r c.loop-tier.tables ts k c.loop-tier-test.true c.requires.children_first c.requires.small held in
    let why = unsolved_one r c.args.width c.loop-tier.tables ts k c.loop-tier-test.true next c.in_err-solve_and_hold.field-0.0 c.in_err-solve_and_hold.ensures.refused in
    search rules

pub loop-tier-preserved : goal.loop-tier-preserved
loop-tier-preserved g c =
    let r = g.G.Game.rules in
    let ts = c.args.tiers.now in
    let k = c.loop-tier.tier-index in
    let (closed, held, known) = c.loop-tier.invariant in (
      c.in_ok-solve_and_hold.ensures.closed,
      have_more c.loop-tier.tables c.solve_and_hold.new.tables ts k c.loop-tier-test.true held c.in_ok-solve_and_hold.ensures.held,
      subst (λ (v : List ℕ). AreTrueTiers r c.args.width v c.solve_and_hold.new.bytes.items) (sym (take_more ts k 0 c.loop-tier-test.true))
          (c.in_ok-solve_and_hold.ensures.known (take k ts) known),
    )
