use Rattle.gm_engine.proofs.Lower.{rules, ◌≤◌, length, slice_index_or, List, ℕ, subst, arith, AreDisordered, IsNotNext, HaveTables}
use Rattle.std.proofs.lemmas.List.{take_all}
use Rattle.gm_engine.proofs.Ordering.{disordered}
use Rattle.gm_engine.proofs.Refused.{unheld}
use Rattle.gm_engine.proofs.engine.hold_all.Goals as goal

pub returns-in_err-hold_true-clause-refused : goal.returns-in_err-hold_true-clause-refused
returns-in_err-hold_true-clause-refused g c =
    let r = g.G.Game.rules in
    let ts = c.args.tiers.now in
    let k = c.loop-tier.tier-index in
    let (closed, have, later) = c.loop-tier.invariant in
    let order = disordered r c.loop-tier.tables ts k c.loop-tier-test.true have in
    let why = unheld (IsNotNext r c.loop-tier.tables (slice_index_or ts k 0)) (AreDisordered r ts) order c.in_err-hold_true.field-0.0
    c.in_err-hold_true.ensures.refused in
    search rules

pub returns-clause-held : goal.returns-clause-held
returns-clause-held g c =
    let ts = c.args.tiers.now in
    let k = c.loop-tier.tier-index in
    let (closed, have, later) = c.loop-tier.invariant in
    let test = c.loop-tier-test.false in
    let past : length ts ≤ k = omega arith in
    subst (λ (v : List ℕ). HaveTables c.loop-tier.tables v) (take_all k ts past) have
