use Rattle.gm_solver.proofs.Lower.{◌≤◌, refl, length, slice_get, sym, ap, ◌∙◌, arith}
use Rattle.gm_locks.proofs.RoundLemmas.{pairs_are_into}
use Rattle.gm_solver.proofs.DeskLemmas.{nth_is}
use Rattle.gm_solver.proofs.pass.PassDesk.next_pair.Goals as goal

pub returns : goal.returns
returns g c =
    let r = g.G.Game.rules in
    let spot = g.L.ShardLedger.spot in
    let notes = g.L.LevelLedger.notes in
    let l = c.args.level.now in
    let long : length l.notes ≤ c.max.result = (let a = c.len.ensures in let b = c.max.ensures in omega arith) in
    let all = pairs_are_into r l spot notes c.requires c.range-lo.result.0 c.range-lo.result.1 c.range-lo.ensures.lo c.range-lo.ensures.hi c.pairs-pairs.result
    (c.pairs-pairs.ensures.whole refl long) in
    let at = c.amount.ensures.value in
    ap (λ xs. slice_get xs c.args.pass.now) (sym all) ∙ ap (slice_get c.pairs-pairs.result) (sym at)
    ∙ nth_is c.pairs-pairs.result c.nth.result c.amount.result c.nth.new.self c.nth.ensures.ran
