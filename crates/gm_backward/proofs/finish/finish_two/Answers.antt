use Rattle.gm_backward.proofs.Lower.{IfOk-at_ok, AreRecordsOf}
use Rattle.std.proofs.lemmas.Result.{IfOk-weaker}
use Rattle.gm_backward.specs.inner.Tiling.{AreAllOf}
use Rattle.gm_backward.proofs.finish.finish_two.Goals as goal

pub returns : goal.returns
returns g c =
    let r = g.G.Game.rules in
    IfOk-weaker c.joined.result _ (AreRecordsOf r c.args.low c.args.high)
    (λ all (p, q, low, high, e).
    record {
      first = p;
      second = q;
      both = e;
      first_is = IfOk-at_ok (AreAllOf r c.args.low) low c.join-first.ensures.first;
      second_is = IfOk-at_ok (AreAllOf r c.args.high) high c.join-first.ensures.second;
    })
    c.joined.ensures
