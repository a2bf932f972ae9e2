use Rattle.gm_find.proofs.Lower.{◌≡◌, take, found_row}
use Rattle.std.specs.List.{flat_map}
use Rattle.gm_find.proofs.rows.found_rows.Given as goal

abbrev pub invariant-loop-x : goal.invariant-loop-x
invariant-loop-x g l = l.rows.items ≡ flat_map (found_row g.G.Shown.shown g.G.Shown.move_shown) (take l.x-index l.found)
