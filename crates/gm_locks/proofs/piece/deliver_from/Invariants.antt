use Rattle.gm_locks.proofs.Lower.{◌≡◌, ◌-◌, ◌≤◌, spot_of, AreFirst, piece_pairs}
use Rattle.std.proofs.Common.{take, drop}
use Rattle.gm_locks.specs.Pieces.{AreNew}
use Rattle.gm_locks.proofs.piece.deliver_from.Given as goal

abbrev pub invariant-loop-k : goal.invariant-loop-k
invariant-loop-k g l = record {
  order : l.from ≤ l.k;
  spot : spot_of l.shard ≡ g.L.ShardLedger.spot;
  first : AreFirst (piece_pairs g.G.Game.rules g.L.ShardLedger.spot g.L.LevelLedger.notes g.L.PieceLedger.size l.piece) l.shard l.k;
  run : AreNew g.G.Game.rules (take (l.k - l.from) (drop l.from (piece_pairs g.G.Game.rules g.L.ShardLedger.spot g.L.LevelLedger.notes g.L.PieceLedger.size
      l.piece))) l.fn.shard l.shard;
}
