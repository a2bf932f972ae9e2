use Rattle.gm_tactix.proofs.Lower.{◌≡◌, ◌+◌, ◌++◌, ℕ, List, take, ap, ◌∙◌, subst, arith}
use Rattle.gm_pieces.specs.Common.{take_all}
use Rattle.gm_tactix.proofs.LineTable.{block, shifted, most, long}
use Rattle.gm_tactix.proofs.LineSegments.{put_all}
use Rattle.gm_tactix.proofs.segments.put_line.Goals as goal

pub returns-clause-numbers : goal.returns-clause-numbers
returns-clause-numbers c =
    let line = c.args.line in
    let content = c.args.content in
    let old = c.args.numbers.now in
    let numbers = c.loop-place.numbers in
    let ns = block line content in
    let within = c.requires.line in
    let bits = c.requires.content in
    let room = c.requires.room in
    let told = c.told-numbers in
    let past = c.loop-place-test.false in
    let end = c.loop-place.auto.place-end in
    let all : c.loop-place.place ≡ 16 = omega arith in
    let wide = long line content within bits in
    let less = most line content within bits in
    let kept : take (c.args.count + 16) numbers ≡ take c.args.count old ++ shifted line ns =
    subst (λ (k : ℕ). take (c.args.count + k) numbers ≡ take c.args.count old ++ shifted line (take k ns)) all c.loop-place.invariant.kept
    ∙ ap (λ (l : List ℕ). take c.args.count old ++ shifted line l) (take_all 16 ns (omega arith)) in
    ap (λ (k : ℕ). take (c.args.count + k) numbers) c.from.ensures ∙ put_all line content old numbers c.args.count within bits (omega arith) (omega arith) kept
