use Rattle.gm_backward.proofs.Lower.{◌≡◌, length, AreStarts}
use Rattle.std.proofs.Common.{min, ◌*◌}
use Rattle.gm_backward.proofs.scan.Scan.in_order_of.Given as goal

abbrev pub invariant-loop-block : goal.invariant-loop-block
invariant-loop-block g l = record {
  long : length l.all.items ≡ min (l.block * 512) l.self.dealing.size;
  starts : AreStarts g.G.Game.rules l.self.tier 0 l.all.items;
}
