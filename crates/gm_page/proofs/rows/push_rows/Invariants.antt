use Rattle.gm_page.proofs.Lower.{List, ◌++◌, Data, drop, flat_map, script_line, AreRows}
use Rattle.gm_page.proofs.Rowing.{HasRows}
use Rattle.gm_page.proofs.rows.push_rows.Given as goal

abbrev pub invariant-loop-p : goal.invariant-loop-p
invariant-loop-p g l = (rest : List Data) → AreRows g.G.Game.rules g.G.Shown.shown g.G.Shown.move_shown l.list (drop l.p-index l.p-items) rest
    → HasRows g.G.Game.rules g.G.Shown.shown g.G.Shown.move_shown l.list l.p-items l.initial.page.items (l.page.items ++ flat_map script_line rest)
