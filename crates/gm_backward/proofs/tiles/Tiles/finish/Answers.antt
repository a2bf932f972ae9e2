use Rattle.gm_backward.proofs.Lower.{IfOk-at_ok, REMOTENESS, IsTrueTable, place_of, AreRecordsOf}
use Rattle.std.proofs.lemmas.Result.{IfOk-weaker}
use Rattle.gm_backward.proofs.TilingLemmas.{four_halves}
use Rattle.gm_backward.proofs.tiles.Tiles.finish.Goals as goal

pub returns : goal.returns
returns g c =
    let r = g.G.Game.rules in
    let s = c.args.self in
    IfOk-weaker c.joined.result _ (IsTrueTable r REMOTENESS s.shards.a.tier)
    (λ all (p, q, low, high, e).
    four_halves r (place_of s.shards.a) s.cuts s.cuts_are s.shards s.shards_are p q all
    (IfOk-at_ok (AreRecordsOf r s.shards.a s.shards.b) low c.join-low.ensures.first)
    (IfOk-at_ok (AreRecordsOf r s.shards.c s.shards.d) high c.join-low.ensures.second) e)
    c.joined.ensures
