use Rattle.std.proofs.Common.{◌+◌, ◌≡◌, refl, arith}
use Rattle.gm_stacks.specs.Heights.{stackings, sum_down}
use Rattle.gm_stacks.specs.laws.HeightRanks.{first_found, last_term}
use Rattle.gm_stacks.proofs.ranked.first_height.Goals as goal

pub returns-else-with_less-rank : goal.returns-else-with_less-rank
returns-else-with_less-rank c = first_found (stackings c.args.rows c.args.others) c.args.rows c.loop-height.height c.args.pieces c.args.rank
    c.loop-height.invariant.low c.loop-height.invariant.few c.loop-height.invariant.passed (omega arith)

pub returns-after-loop-height : goal.returns-after-loop-height
returns-after-loop-height c =
    let f = stackings c.args.rows c.args.others in
    let e : c.loop-height.height ≡ c.args.pieces = omega arith in
    let last = last_term f c.args.rows c.args.pieces (omega arith) in
    let same : sum_down f (c.loop-height.height + 1) c.args.pieces ≡ sum_down f (c.args.pieces + 1) c.args.pieces = rw e refl in
    first_found f c.args.rows c.loop-height.height c.args.pieces c.args.rank
    c.loop-height.invariant.low c.loop-height.invariant.few c.loop-height.invariant.passed (omega (arith, last, same))
