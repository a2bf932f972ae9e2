use Rattle.gm_page.proofs.Lower.{◌≡◌, false, [], ◌∷◌, ◌++◌, List, map, sym, refl, ap, subst, ◌∙◌, All, Data, view, view-Array, array, items_of, has_float, rules, MoveValue, text, text_of, Group, AreGroups, group_tree, row_tree, script_line}
use Rattle.std.proofs.lemmas.Result.{on_ok_weaker}
use Rattle.std.proofs.lemmas.List.Elements.{All-drop, All-take}
use Rattle.std.proofs.lemmas.List.{map-append}
use Rattle.gm_play.specs.PlayTexts.{IsMoveOf}
use Rattle.gm_play.proofs.Rows.{are_moves}
use Rattle.gm_page.proofs.Rowing.{AreGrouped, is_run, none_first, row_without, written_next, written_end}
use Rattle.gm_page.proofs.rows.push_row.Goals as goal

pub loop-x-init : goal.loop-x-init
loop-x-init g c =
    let known = c.args.known.now in
    record {
      each = subst (All (IsMoveOf g.G.Game.rules known.position)) (sym c.as_slice-rest.ensures.value)
          (are_moves g.G.Game.rules g.met.G.Game.lawful known.position known.legal c.move_values-moves.result.items c.move_values-moves.ensures.values);
      grouped = λ gs are. (gs, are, refl);
    }

pub group_value-requires : goal.group_value-requires
group_value-requires g c =
    let Is = IsMoveOf g.G.Game.rules c.args.known.now.position in
    subst (All Is) (sym c.split_at.ensures.front) (All-take Is c.run_length.result c.loop-x.rest.now c.loop-x.invariant.each)

pub loop-x-preserved : goal.loop-x-preserved
loop-x-preserved g c =
    let p = c.args.known.now.position in
    let tree = group_tree g.G.Shown.shown g.G.Shown.move_shown c.args.list.now p in
    let rest = c.loop-x.rest.now in
    let n = c.run_length.result in
    let others = c.split_at.result.1.now in
    let one : Group = record { worth = c.in-Some.x.now.worth; moves = c.split_at.result.0.now } in
    let (run, parts) = is_run c.in-Some.x.now rest one.moves others n c.in-Some.ensures.value c.split_at.ensures.front c.split_at.ensures.back
    c.run_length.ensures.within c.run_length.ensures.same c.run_length.ensures.ends in
    let cells : map view c.push-in-Some.new.list.items ≡ map view c.loop-x.cells.items ++ tree one ∷ []
    = ap (map view) c.in_ok-push-3.ensures.ok ∙ map-append view c.loop-x.cells.items _ ∙ ap (λ (d : Data). map view c.loop-x.cells.items ++ d ∷ [])
    c.in_ok-group_value.ensures in
    record {
      each = subst (All (IsMoveOf g.G.Game.rules p)) (sym c.split_at.ensures.back) (All-drop (IsMoveOf g.G.Game.rules p) n rest c.loop-x.invariant.each);
      grouped = λ gs are. written_next (AreGrouped tree c.as_slice-rest.result.now (map view c.push-2.new.list.items))
          (map view c.loop-x.cells.items) (tree one ∷ []) (map view c.push-in-Some.new.list.items) (map tree gs) cells
          (c.loop-x.invariant.grouped (one ∷ gs) (others, parts, run, are));
    }

pub push_script_line-requires : goal.push_script_line-requires
push_script_line-requires g c =
    let p = c.args.known.now.position in
    let s = g.G.Shown.shown in
    let m = g.G.Shown.move_shown in
    let tree = group_tree s m c.args.list.now p in
    let start : map view c.push-2.new.list.items ≡ text (s p) ∷ text (text_of c.value-value.result) ∷ [] = search rules in
    let (groups, are, cells) = written_end (AreGrouped tree c.as_slice-rest.result.now (map view c.push-2.new.list.items)) (map view c.loop-x.cells.items)
    (c.loop-x.invariant.grouped [] (none_first c.loop-x.rest.now c.in_default.ensures.value)) in
    subst (λ (d : Data). has_float d ≡ false) (sym (view-Array c.loop-x.cells ∙ ap (λ (ds : List Data). array (items_of ds))
    (cells ∙ ap (λ (ds : List Data). ds ++ map tree groups) start)))
    (row_without s m c.args.list.now p c.value-value.result groups)

pub returns : goal.returns
returns g c =
    let p = c.args.known.now.position in
    let s = g.G.Shown.shown in
    let m = g.G.Shown.move_shown in
    let tree = group_tree s m c.args.list.now p in
    let start : map view c.push-2.new.list.items ≡ text (s p) ∷ text (text_of c.value-value.result) ∷ [] = search rules in
    let (groups, are, cells) = written_end (AreGrouped tree c.as_slice-rest.result.now (map view c.push-2.new.list.items)) (map view c.loop-x.cells.items)
    (c.loop-x.invariant.grouped [] (none_first c.loop-x.rest.now c.in_default.ensures.value)) in
    on_ok_weaker c.push_script_line.result
    (λ e. (
      row_tree s m c.args.list.now p c.value-value.result groups,
      record {
        value = c.value-value.result;
        is_true = c.value-value.ensures.value;
        list = c.move_values-moves.result.items;
        values = c.move_values-moves.ensures.values;
        groups = groups;
        grouped = subst (λ (ms : List MoveValue). AreGroups ms groups) c.as_slice-rest.ensures.value are;
        tree_is = refl;
      },
      e ∙ ap (λ (d : Data). c.args.page.now.items ++ script_line d) (view-Array c.loop-x.cells ∙ ap (λ (ds : List Data). array (items_of ds))
          (cells ∙ ap (λ (ds : List Data). ds ++ map tree groups) start)),
    ))
    c.push_script_line.ensures
