use Rattle.gm_tactix.proofs.Lower.{◌++◌, ℕ, List, ap₂, ◌∙◌, inl, inr, arith, can_take, counters_of}
use Rattle.gm_pieces.specs.Common.{cases_lt}
use Rattle.gm_tactix.proofs.LineSegments.{line_taken, lines_more}
use Rattle.gm_tactix.proofs.segments.list_takeable.Goals as goal

pub loop-line-preserved : goal.loop-line-preserved
loop-line-preserved c =
    let x = c.args.counters in
    let line = c.loop-line.line in
    let p = can_take 5 (counters_of 25 x) in
    let i = c.loop-line.invariant in
    let below = c.loop-line-test.true in
    let row = c.put_line-count.ensures.row in
    let column = c.put_line-count.ensures.column in
    let rows = i.rows in
    let columns = i.columns in
    let kept =
    c.put_line-count.ensures.numbers
    ∙ ap₂ (λ (ms ns : List ℕ). ms ++ ns) i.kept (line_taken x line c.content.result below c.content.ensures.cells)
    ∙ lines_more p line in
    record {
      long = c.put_line-count.array_long;
      rows = omega arith;
      columns = elim (cases_lt line 5) [
        | inl l ↦ (omega arith)
        | inr l ↦ (let few = column l in omega arith)
      ];
      kept = kept;
    }
