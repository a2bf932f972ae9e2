use Rattle.gm_json.proofs.Lower.{◌++◌, List, ℕ, ◌∷◌, [], false, codes, map, refl, ap, ◌∙◌, on_ok_weaker, items_of, items_text, move_trees, append_assoc, comma_if, compact_text, get_or, key_text}
use Rattle.gm_json.specs.Moves.{move_tree}
use Rattle.gm_json.proofs.Writing.{opened, items_more, items_end, value_after}
use Rattle.gm_json.proofs.moves.push_moves.Goals as goal

pub push_move-requires-clause-each : goal.push_move-requires-clause-each
push_move-requires-clause-each g c = c.requires.each c.loop-x.x-index _ c.loop-x-test.true

pub loop-x-init : goal.loop-x-init
loop-x-init g c =
    let tree = move_tree g.G.Game.rules g.G.Shown.shown g.G.Shown.move_shown c.args.p in
    opened (c.args.out.now.items ++ key_text false (codes "moves")) c.push_bytes.new.out.items 91 (items_text false (items_of (map tree c.args.list.now)))
    (c.in_ok-push_bytes.ensures ∙ ap (λ (l : List ℕ). l ++ 91 ∷ []) c.in_ok-push_key.ensures)

pub loop-x-preserved : goal.loop-x-preserved
loop-x-preserved g c =
    let tree = move_tree g.G.Game.rules g.G.Shown.shown g.G.Shown.move_shown c.args.p in
    let old = c.loop-x.out.items in
    let text = compact_text (tree (get_or c.args.list.now c.loop-x.x-index _)) in
    items_more tree c.args.list.now c.loop-x.x-index _ old c.push_move.new.out.items c.loop-x.later _ c.loop-x-test.true
    (c.in_ok-push_move.ensures ∙ ap (λ (l : List ℕ). l ++ text) c.in_ok-push_comma.ensures ∙ append_assoc old (comma_if c.loop-x.later) text)
    c.loop-x.invariant

pub returns : goal.returns
returns g c =
    let tree = move_tree g.G.Game.rules g.G.Shown.shown g.G.Shown.move_shown c.args.p in
    let trees = move_trees g.G.Game.rules g.G.Shown.shown g.G.Shown.move_shown c.args.p c.args.list.now in
    let old = c.args.out.now.items in
    on_ok_weaker c.push_bytes-2.result
    (λ e. value_after old (old ++ key_text false (codes "moves")) c.push_bytes-2.new.out.items false (codes "moves") (compact_text trees) trees refl
    (items_end tree c.args.list.now c.loop-x.x-index c.loop-x.out.items _ c.loop-x.later _ c.loop-x-test.false e c.loop-x.invariant) refl)
    c.push_bytes-2.ensures
