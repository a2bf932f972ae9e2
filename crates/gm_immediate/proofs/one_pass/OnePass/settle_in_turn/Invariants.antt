use Rattle.gm_immediate.proofs.Lower.{◌≡◌, length, block_in, IsBlockFound}
use Rattle.gm_table.proofs.Dealt.{EachAt}
use Rattle.gm_immediate.proofs.one_pass.OnePass.settle_in_turn.Given as goal

abbrev pub invariant-loop-place : goal.invariant-loop-place
invariant-loop-place g l = record {
  long : length l.found.items ≡ l.place;
  each : EachAt (λ place x. IsBlockFound g.G.Game.rules l.self.tier (block_in l.self.dealing.rows place) x) l.found.items;
}
