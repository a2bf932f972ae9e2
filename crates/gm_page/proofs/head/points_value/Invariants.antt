use Rattle.gm_page.proofs.Lower.{◌≡◌, ◌++◌, drop, map, view, text}
use Rattle.gm_draw.specs.Pictures.{texts}
use Rattle.gm_page.proofs.head.points_value.Given as goal

abbrev pub invariant-loop-point : goal.invariant-loop-point
invariant-loop-point l = map view l.cells.items ++ map text (texts (drop l.point-index l.points)) ≡ map text (texts l.points)
