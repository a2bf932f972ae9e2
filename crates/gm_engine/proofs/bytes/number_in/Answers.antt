use Rattle.gm_engine.proofs.Lower.{rules, ◌≡◌, get_or}
use Rattle.gm_engine.proofs.Words.{word_is}
use Rattle.gm_engine.proofs.bytes.number_in.Goals as goal

pub returns : goal.returns
returns c =
    let w = c.args.word.now in
    let first : get_or w 0 0 ≡ c.from.result = search rules in
    let second : get_or w 1 0 ≡ c.from-2.result = search rules in
    let third : get_or w 2 0 ≡ c.from-3.result = search rules in
    let fourth : get_or w 3 0 ≡ c.from-4.result = search rules in
    word_is w c.from.result c.from-2.result c.from-3.result c.from-4.result c.requires first second third fourth
