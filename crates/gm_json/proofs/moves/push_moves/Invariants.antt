use Rattle.gm_json.proofs.Lower.{◌≡◌, ◌++◌, ◌∷◌, false, codes, map, drop, items_of, items_text, key_text}
use Rattle.gm_json.specs.Moves.{move_tree}
use Rattle.gm_json.proofs.moves.push_moves.Given as goal

abbrev pub invariant-loop-x : goal.invariant-loop-x
invariant-loop-x g l =
    let tree = move_tree g.G.Game.rules g.G.Shown.shown g.G.Shown.move_shown l.p in
    l.out.items ++ items_text l.later (items_of (map tree (drop l.x-index l.list)))
    ≡ (l.fn.out.items ++ key_text false (codes "moves")) ++ 91 ∷ items_text false (items_of (map tree l.list))
