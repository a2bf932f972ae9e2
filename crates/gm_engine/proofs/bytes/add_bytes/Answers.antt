use Rattle.gm_engine.proofs.Lower.{rules, ◌≡◌, ◌++◌, ◌∷◌, [], ap, ◌<◌, length, arith, ◌∙◌, unpacked}
use Rattle.gm_engine.proofs.Trueness.{record_more, append_one}
use Rattle.gm_engine.proofs.bytes.add_bytes.Goals as goal

pub loop-index-preserved : goal.loop-index-preserved
loop-index-preserved g c =
    let (more, is, same) = c.loop-index.invariant in
    let test = c.loop-index-test.true in
    let long = c.size-index-end.ensures.value in
    let within : c.loop-index.index < length c.args.table.now.records = omega arith in
    let ok = c.if-is_err.ensures.negation in
    let pushed : c.push.new.self.items ≡ c.loop-index.bytes.items ++ c.in-Some.byte ∷ [] = search rules in (
      more ++ c.in-Some.byte ∷ [],
      append_one c.args.bytes.now.items more c.loop-index.bytes.items c.push.new.self.items c.in-Some.byte is pushed,
      record_more c.args.table.now.records more c.loop-index.index c.in-Some.byte within same
          (ap unpacked c.in-Some.ensures.short ∙ c.number_of.ensures.number ∙ c.at.ensures.value),
    )
