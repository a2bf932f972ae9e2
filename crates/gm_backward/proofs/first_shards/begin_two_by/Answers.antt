use Rattle.gm_backward.proofs.Lower.{◌+◌, IfOk-at_ok}
use Rattle.gm_backward.specs.inner.Tiling.{IsTile}
use Rattle.gm_backward.proofs.first_shards.begin_two_by.Goals as goal

pub returns-in-Ok-Ok : goal.returns-in-Ok-Ok
returns-in-Ok-Ok g c =
    let r = g.G.Game.rules in
    let tier = c.args.tier in
    let cuts = c.args.cuts in
    record {
      low_is = IfOk-at_ok (IsTile r tier cuts c.args.k) c.in-Ok-Ok.is-0 c.join-low.ensures.first;
      high_is = IfOk-at_ok (IsTile r tier cuts (c.args.k + 1)) c.in-Ok-Ok.is-1 c.join-low.ensures.second;
    }
