use Rattle.gm_tierdb.proofs.Lower.{◌+◌, ◌<◌, ◌++◌, ◌-◌, ◌∙◌, length, ap, arith, width, record_bytes, record_at}
use Rattle.std.proofs.Common.{replicate, ◌*◌}
use Rattle.gm_tierdb.proofs.HoleBytes.{holes_more}
use Rattle.gm_tierdb.proofs.RecordLemmas.{one_more}
use Rattle.gm_tierdb.proofs.encode.push_records.Goals as goal

pub loop-index-preserved : goal.loop-index-preserved
loop-index-preserved g c =
    let v = c.args.version in
    let out = c.args.file.now.items in
    let records = c.args.table.now.records in
    let i = c.loop-index.index in
    let test = c.loop-index-test.true in
    let long = c.size.ensures.value in
    let inside : i < length records = omega arith in
    let next = c.skip_holes-next in (
      next.ensures.high,
      c.in_ok-push_holes.ensures
          ∙ ap (λ l. l ++ replicate (width v * (next.result - (i + 1))) 0)
          (c.in_ok-push_record.ensures ∙ ap (λ l. l ++ record_bytes v (record_at records i)) c.loop-index.invariant.1 ∙ one_more v out records i inside)
          ∙ holes_more v out records (i + 1) next.result (next.ensures.low (omega arith)) next.ensures.high next.ensures.holes,
    )
