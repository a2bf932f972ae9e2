use Rattle.gm_json.proofs.Lower.{◌≡◌, ◌++◌, ◌∷◌, [], List, ℕ, true, false, codes, refl, ap, sym, subst, ◌∙◌, All, compact_text, MoveValue, member, no_members, members_text, move_trees, position_members}
use Rattle.gm_play.specs.PlayTexts.{IsMoveOf}
use Rattle.gm_json.specs.Moves.{moves_tree}
use Rattle.gm_json.proofs.Writing.{opened, member_next}
use Rattle.gm_json.proofs.moves.moves_json.Goals as goal

pub push_moves-requires-clause-each : goal.push_moves-requires-clause-each
push_moves-requires-clause-each g c = subst (All (IsMoveOf g.G.Game.rules c.args.known.now.position)) (sym c.as_slice.ensures.value)
    c.moves_of-list.ensures.each

pub returns : goal.returns
returns g c =
    let r = g.G.Game.rules in
    let shown = g.G.Shown.shown in
    let move_shown = g.G.Shown.move_shown in
    let known = c.args.known.now in
    let found = c.moves_of-list.ensures.moves in
    let tree = moves_tree r shown move_shown known.position c.value.result in
    let trees = move_trees r shown move_shown known.position c.as_slice.result.now in
    let tail = position_members r shown move_shown known.position c.value.result no_members in
    let o1 = c.push_bytes.new.out.items in
    let o2 = c.push_moves.new.out.items in
    let o3 = c.push_value.new.out.items in
    let all : o3 ++ members_text true no_members ≡ 123 ∷ members_text false (member (codes "moves") trees tail)
    = c.in_ok-push_value.ensures no_members ∙ member_next o1 o2 false (codes "moves") trees tail c.in_ok-push_moves.ensures ∙ opened [] o1 123
    (members_text false (member (codes "moves") trees tail)) (c.in_ok-push_bytes.ensures ∙ ap (λ (l : List ℕ). l ++ codes "{") c.new-line.ensures.items) in
    record {
      position = known.position;
      read = (known.legal, refl);
      value = c.value.result;
      is_true = c.value.ensures.value;
      list = found.list;
      values = found.values;
      best = found.best;
      out_is = c.in_ok-push_bytes-2.ensures ∙ all ∙ ap (λ (list : List MoveValue). compact_text (tree list)) (c.as_slice.ensures.value ∙ found.are);
    }
