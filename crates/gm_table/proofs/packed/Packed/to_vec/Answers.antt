use Rattle.gm_table.proofs.Lower.{◌<◌, ◌++◌, ◌∷◌, [], List, None, Option, length, take, ap, sym, ◌∙◌, arith, take_more, take_all, Solved}
use Rattle.gm_table.proofs.LevelLemmas.{record_read}
use Rattle.gm_table.proofs.packed.Packed.to_vec.Goals as goal

pub loop-index-preserved : goal.loop-index-preserved
loop-index-preserved c =
    let records = c.args.self.now in
    let i = c.loop-index.index in
    let count = c.len-index-end.ensures in
    let below = c.loop-index-test.true in
    let inside : i < length records = omega arith in
    c.in_ok-push.ensures.items ∙ ap (λ (rs : List (Option Solved)). rs ++ c.get.result ∷ []) c.loop-index.invariant
    ∙ ap (λ (o : Option Solved). take i records ++ o ∷ []) (c.get.ensures ∙ record_read records i inside) ∙ sym (take_more records i None inside)

pub returns : goal.returns
returns c =
    let count = c.len-index-end.ensures in
    let past = c.loop-index-test.false in
    c.loop-index.invariant ∙ take_all c.loop-index.index c.args.self.now (omega arith)
