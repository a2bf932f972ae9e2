use Rattle.gm_page.proofs.Lower.{[], ◌∷◌, List, map, ap, ◌∙◌, Data, array, view, items_of, text_of, text, move_cells, view-Array}
use Rattle.gm_page.proofs.Rowing.{trees_all}
use Rattle.gm_page.proofs.rows.group_value.Goals as goal

pub push_move-requires : goal.push_move-requires
push_move-requires g c = c.requires c.loop-x.x-index _ c.loop-x-test.true

pub returns : goal.returns
returns g c =
    let cells = move_cells g.G.Shown.shown g.G.Shown.move_shown c.args.list.now c.args.known.now.position in
    let all = trees_all cells c.args.run.now c.loop-x.x-index (text (text_of c.args.worth) ∷ []) (map view c.loop-x.cells.items) c.loop-x-test.false
    c.loop-x.invariant in
    view-Array c.loop-x.cells ∙ ap (λ (ds : List Data). array (items_of ds)) all
