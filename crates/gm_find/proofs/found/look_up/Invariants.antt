use Rattle.gm_find.proofs.Lower.{◌≡◌, take, map, All, IsFound, found_position}
use Rattle.gm_find.specs.Founds.{HasTriesAsked}
use Rattle.gm_find.proofs.found.look_up.Given as goal

abbrev pub invariant-loop-p : goal.invariant-loop-p
invariant-loop-p g l = record {
  positions : map found_position l.found.items ≡ take l.p-index l.positions;
  each : All (IsFound g.G.Game.rules) l.found.items;
  counted : All (HasTriesAsked l.tries) l.found.items;
}
