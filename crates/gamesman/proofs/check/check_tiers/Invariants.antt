use Rattle.gamesman.proofs.Lower.{◌≡◌, take}
use Rattle.std.proofs.Common.{IsTrue}
use Rattle.gm_tierdb.specs.StoreTexts.{AreSame, store_view}
use Rattle.gamesman.proofs.Checks.{IsToldTo}
use Rattle.gamesman.proofs.check.check_tiers.Given as goal

abbrev pub invariant-loop-tier : goal.invariant-loop-tier
invariant-loop-tier g l = record {
  told : IsToldTo g.G.Game.rules (store_view g.S.Store.READS (g.S.Store.texts l.initial.store)) l.json (take l.tier-index l.tiers)
      (g.O.Write.contents l.initial.output) (g.O.Write.contents l.output) l.tables l.status;
  same : IsTrue g.S.Store.READS → AreSame (g.S.Store.texts l.initial.store) (g.S.Store.texts l.store);
  count : g.S.Store.failed l.store ≡ g.S.Store.failed l.initial.store;
}
