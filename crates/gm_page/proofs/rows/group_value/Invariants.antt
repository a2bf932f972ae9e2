use Rattle.gm_page.proofs.Lower.{◌≡◌, [], ◌∷◌, ◌++◌, take, map, flat_map, view, text_of, text, move_cells}
use Rattle.gm_page.proofs.rows.group_value.Given as goal

abbrev pub invariant-loop-x : goal.invariant-loop-x
invariant-loop-x g l = map view l.cells.items ≡ (text (text_of l.fn.worth) ∷ []) ++ flat_map (move_cells g.G.Shown.shown g.G.Shown.move_shown l.list l.known.position)
    (take l.x-index l.run)
