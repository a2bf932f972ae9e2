use Rattle.gm_json.proofs.Lower.{◌++◌, ◌∷◌, Bool, false, codes, sym, ap, ◌∙◌, if◌then◌else◌, on_ok_weaker, Members, member, members_text, move_trees, position_members}
use Rattle.gm_json.proofs.Writing.{opened, member_next}
use Rattle.gm_json.proofs.answer.push_front.Goals as goal

pub returns-then-asked : goal.returns-then-asked
returns-then-asked g c =
    let r = g.G.Game.rules in
    let shown = g.G.Shown.shown in
    let move_shown = g.G.Shown.move_shown in
    let trees = move_trees r shown move_shown c.args.p c.args.list.now in
    let o0 = c.args.out.now.items in
    let o1 = c.push_bytes.new.out.items in
    on_ok_weaker c.push_value.result
    (λ e (more : Members).
    let tail = position_members r shown move_shown c.args.p c.args.value more in
    e more ∙ opened o0 o1 123 (members_text false tail) c.in_ok-push_bytes.ensures
    ∙ ap (λ (b : Bool). o0 ++ 123 ∷ members_text false (if b then tail else member (codes "moves") trees tail)) (sym c.if-asked.true))
    c.push_value.ensures

pub returns : goal.returns
returns g c =
    let r = g.G.Game.rules in
    let shown = g.G.Shown.shown in
    let move_shown = g.G.Shown.move_shown in
    let trees = move_trees r shown move_shown c.args.p c.args.list.now in
    let o0 = c.args.out.now.items in
    let o1 = c.push_bytes.new.out.items in
    let o2 = c.push_moves.new.out.items in
    on_ok_weaker c.push_value-2.result
    (λ e (more : Members).
    let tail = position_members r shown move_shown c.args.p c.args.value more in
    e more ∙ member_next o1 o2 false (codes "moves") trees tail c.in_ok-push_moves.ensures ∙ opened o0 o1 123
    (members_text false (member (codes "moves") trees tail)) c.in_ok-push_bytes.ensures
    ∙ ap (λ (b : Bool). o0 ++ 123 ∷ members_text false (if b then tail else member (codes "moves") trees tail)) (sym c.if-asked.false))
    c.push_value-2.ensures
