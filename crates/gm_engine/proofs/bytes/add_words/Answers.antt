use Rattle.gm_engine.proofs.Lower.{rules, ◌≡◌, ◌<◌, ◌+◌, ◌++◌, length, arith, ◌∙◌}
use Rattle.std.proofs.lemmas.List.{length-append}
use Rattle.std.proofs.Common.{◌*◌}
use Rattle.gm_engine.proofs.Words.{word_more, word_at_end}
use Rattle.gm_engine.proofs.bytes.add_words.Goals as goal

pub loop-index-preserved : goal.loop-index-preserved
loop-index-preserved g c =
    let (more, is, long, same) = c.loop-index.invariant in
    let test = c.loop-index-test.true in
    let size = c.size-index-end.ensures.value in
    let within : c.loop-index.index < length c.args.table.now.records = omega arith in
    let ok = c.if-is_err.ensures.negation in
    let pushed : c.extend_from_slice.new.self.items ≡ c.loop-index.bytes.items ++ c.word_of-word.result = search rules in
    let joined = length-append more c.word_of-word.result in
    let four = c.word_of-word.ensures.long in
    let longer : length (more ++ c.word_of-word.result) ≡ 4 * (c.loop-index.index + 1) = omega arith in (
      more ++ c.word_of-word.result,
      word_at_end c.args.bytes.now.items more c.loop-index.bytes.items c.extend_from_slice.new.self.items c.word_of-word.result is pushed,
      longer,
      word_more c.args.table.now.records more c.word_of-word.result c.loop-index.index c.number_of.result within long same c.word_of-word.ensures.value
          (c.number_of.ensures.number ∙ c.at.ensures.value),
    )
