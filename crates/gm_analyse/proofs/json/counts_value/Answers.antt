use Rattle.gm_analyse.proofs.Lower.{◌+◌, List, [], ◌∷◌, ◌++◌, map, drop, drop_all, get_or, sym, ap, ◌∙◌, append-nil, append_assoc, Count, count_tree, drop_more}
use Rattle.serde_json.specs.Data.{Data, array}
use Rattle.serde_json.specs.View.{items_of, view}
use Rattle.serde_json.proofs.Views.{view-Array}
use Rattle.gm_analyse.proofs.json.counts_value.Goals as goal

pub loop-count-preserved : goal.loop-count-preserved
loop-count-preserved c =
    let counts = c.args.counts.now in
    let k = c.loop-count.count-index in
    let old = map view c.loop-count.list.items in
    let rest = map count_tree (drop (k + 1) counts) in
    ap (λ (ds : List Data). ds ++ rest) c.in_ok-push_count.ensures ∙ append_assoc old (count_tree (get_or counts k _) ∷ []) rest
    ∙ ap (λ (cs : List Count). old ++ map count_tree cs) (sym (drop_more counts k _ c.loop-count-test.true)) ∙ c.loop-count.invariant

pub returns : goal.returns
returns c =
    let old = map view c.loop-count.list.items in
    let none = drop_all c.loop-count.count-index c.args.counts.now c.loop-count-test.false in
    view-Array c.loop-count.list ∙ ap (λ (ds : List Data). array (items_of ds))
    (sym (append-nil old) ∙ ap (λ (cs : List Count). old ++ map count_tree cs) (sym none) ∙ c.loop-count.invariant)
