use Rattle.gm_table.proofs.Lower.{◌≡◌, map, take, AreResults, IsSummary, look_up}
use Rattle.gm_table.proofs.fits.gather.Given as goal

abbrev pub invariant-loop-c : goal.invariant-loop-c
invariant-loop-c g l = record {
  same : l.cache ≡ l.fn.cache;
  all_children : AreResults g.G.Game.rules l.fn.p l.results;
  summary : IsSummary
      (map (look_up g.G.Game.rules l.fn.cache.tables l.fn.cache.tier (g.C.Records.listed l.records)) (take l.c-index l.results)) l.seen;
}
