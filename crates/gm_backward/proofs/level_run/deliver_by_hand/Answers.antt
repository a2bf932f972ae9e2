use Rattle.gm_backward.proofs.Lower.{ap, ◌∙◌, Place}
use Rattle.gm_backward.proofs.FinishLemmas.{piece_is, refused_at_far}
use Rattle.gm_backward.proofs.level_run.deliver_by_hand.Goals as goal

pub deliver_rest-requires-clause-pairs : goal.deliver_rest-requires-clause-pairs
deliver_rest-requires-clause-pairs g c =
    let l = c.args.job.now.level.now in
    piece_is g.G.Game.rules l g.L.ShardLedger.spot g.L.LevelLedger.notes c.args.job.now.notes g.L.PieceLedger.size c.args.piece c.range-lo.result.0
    c.range-lo.result.1
    c.in_ok-list.list c.requires.level c.range-lo.ensures.lo c.range-lo.ensures.hi c.requires.size
    (c.in_ok-list.ensures ∙ c.pairs.ensures.value)

pub returns-clause-error : goal.returns-clause-error
returns-clause-error g c = (
  c.tier-tier.ensures.value ∙ ap (λ (p : Place). p.tier) c.requires.level.place,
  refused_at_far g.G.Game.rules g.met.G.Game.lawful g.L.ShardLedger.spot c.in-Err.ensures.far c.requires.near,
)
