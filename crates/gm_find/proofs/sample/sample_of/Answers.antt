use Rattle.gm_find.proofs.Lower.{[], ◌∷◌, ◌++◌, length, ap, ◌∙◌, arith, length-append}
use Rattle.gm_find.proofs.Picking.{picked_left, picked_more}
use Rattle.gm_find.proofs.sample.sample_of.Goals.{then-random_range-wanted+in_ok-push, else-random_range-wanted}
use Rattle.gm_find.proofs.sample.sample_of.Goals as goal

pub loop-place-preserved : goal.loop-place-preserved
loop-place-preserved g c =
    let items = c.args.items.now in
    let k = c.loop-place.place in
    let old = c.loop-place.chosen.items in
    let before = c.loop-place.invariant in
    let many = before.many in
    let room = before.room in
    let inside = c.loop-place-test.true in
    let below = c.random_range.ensures in
    elim c.if-random_range-wanted.branch [
      | then-random_range-wanted+in_ok-push w ↦ (
          let grown = ap (λ (v : _). v.items) w.chosen-is ∙ w.in_ok-push.ensures.items in
          let long = ap length grown ∙ length-append old _ in
          let less = w.wanted-is in
          let drawn = w.if-random_range-wanted.true in
          record {
            picked = picked_more items old _ k w.index-items-place.result inside before.picked (grown ∙ ap (λ (x : _). old ++ x ∷ []) w.index-items-place.is);
            many = omega arith;
            room = omega arith;
          })
      | else-random_range-wanted w ↦ (
          let same = ap (λ (v : _). v.items) w.chosen-is in
          let long = ap length same in
          let kept = w.wanted-is in
          let drawn = w.if-random_range-wanted.false in
          record {
            picked = rw same (picked_left items old k inside before.picked);
            many = omega arith;
            room = omega arith;
          })
    ]
