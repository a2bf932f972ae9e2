use Rattle.gm_backward.proofs.Lower.{arith, slice_get_within}
use Rattle.gm_backward.proofs.pieces.clear.Goals as goal

pub returns : goal.returns
returns g c = λ size cuts. record {
  each = λ k v e. (let inside = slice_get_within c.loop-list.lists k v e in let long = c.loop-list.invariant.long in
      let end = c.loop-list-test.false in c.loop-list.invariant.none k v (omega arith) e);
}
