use Rattle.gm_play.proofs.Lower.{◌≡◌, take, map, All, MoveValue, IsMoveValue}
use Rattle.gm_play.proofs.move_values.values_of.Given as goal

abbrev pub invariant-loop-number : goal.invariant-loop-number
invariant-loop-number g l = record {
  listed : map (λ (x : MoveValue). x.number) l.list.items ≡ take l.number-index l.number-items;
  each : All (IsMoveValue g.G.Game.rules l.known.position) l.list.items;
}
