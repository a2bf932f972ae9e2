use Rattle.gm_play.proofs.Lower.{◌-◌, ◌++◌, length, take, drop, sym, ap, subst, ◌∙◌, arith, rules, Appends, Appends-trans}
use Rattle.std.proofs.lemmas.List.{length-take, take-take}
use Rattle.std.proofs.Common.{take-add}
use Rattle.gm_play.proofs.Parts.{part_stuck, part_kept}
use Rattle.gm_play.proofs.streams.write_text.Goals as goal

pub loop-done-preserved : goal.loop-done-preserved
loop-done-preserved g c =
    let done = c.loop-done.done in
    let n = c.in-Ok.count in
    let xs = c.args.text.now in
    let before = c.loop-done.invariant in
    let fits = c.in-Ok.ensures.bound in
    let most = length-take (length xs - done) (drop done xs) in
    let joined = ap (λ l. take done xs ++ l) (take-take n (length xs - done) (drop done xs) (omega arith)) ∙ sym (take-add done n xs) in
    (omega arith, subst (Appends _ _) joined (Appends-trans _ _ _ _ _ before.1 c.in-Ok.ensures.bytes))

pub returns-in-Ok-eq0-clause-err : goal.returns-in-Ok-eq0-clause-err
returns-in-Ok-eq0-clause-err g c = part_stuck _ _ _ c.loop-done.done c.in-Ok-eq0.field-0 c.args.text.now _ c.loop-done.invariant.1 c.in-Ok-eq0.ensures.bytes
    (search rules)

pub returns-in-Err-clause-err : goal.returns-in-Err-clause-err
returns-in-Err-clause-err g c = part_kept _ _ _ c.loop-done.done c.args.text.now c.loop-done.invariant.1 c.in-Err.ensures.bytes
