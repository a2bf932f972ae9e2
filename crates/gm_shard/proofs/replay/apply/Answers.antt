use Rattle.gm_shard.proofs.Lower.{get_or, sym, refl, arith}
use Rattle.std.proofs.lemmas.Option.{slice_get-get_or}
use Rattle.gm_shard.proofs.RunLemmas.{applied, not_applied}
use Rattle.gm_shard.proofs.replay.apply.Goals as goal

pub returns : goal.returns
returns g c =
    let k = c.shard_of-index.result in
    let d = c.index-shards-index.result in
    applied g.G.Game.rules c.args.event.now c.args.shards.now k (get_or c.args.shards.now k d) c.take.new.shard c.take.result
    (slice_get-get_or c.args.shards.now k d (omega (arith, c.if-index-shards.false))) (sym c.shard_of-index.ensures) c.take.ensures

pub returns-then-index-shards : goal.returns-then-index-shards
returns-then-index-shards g c = (
  refl,
  not_applied g.G.Game.rules c.args.event.now c.args.shards.now
      (λ l. (let e = c.shard_of-index.ensures in let h = c.if-index-shards.true in omega arith)),
)
