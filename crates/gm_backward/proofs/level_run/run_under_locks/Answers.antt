use Rattle.gm_backward.proofs.Lower.{sym, ◌∙◌}
use Rattle.gm_backward.proofs.TilingLemmas.{choose_tile}
use Rattle.gm_backward.proofs.level_run.run_under_locks.Goals as goal

pub run_crew-requires-clause-tiles : goal.run_crew-requires-clause-tiles
run_crew-requires-clause-tiles g c κs bounds =
    let q = c.requires in
    let p = c.args.job.now in
    choose_tile g.G.Game.rules p.level.now.place p.cuts g.A.ShardLedger.spot g.B.ShardLedger.spot g.C.ShardLedger.spot g.D.ShardLedger.spot
    (sym q.a.spot ∙ q.here.a)
    (sym q.b.spot ∙ q.here.b) (sym q.c.spot ∙ q.here.c) (sym q.d.spot ∙ q.here.d)
