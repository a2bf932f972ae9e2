use Rattle.gm_json.proofs.Lower.{◌≡◌, take, found_line}
use Rattle.std.specs.List.{flat_map}
use Rattle.gm_json.proofs.find.found_lines.Given as goal

abbrev pub invariant-loop-x : goal.invariant-loop-x
invariant-loop-x g l = l.lines.items ≡ flat_map (found_line g.G.Shown.shown g.G.Shown.move_shown) (take l.x-index l.found)
