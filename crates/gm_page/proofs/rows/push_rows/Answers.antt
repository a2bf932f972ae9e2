use Rattle.gm_page.proofs.Lower.{◌≡◌, ◌++◌, ◌∷◌, [], List, sym, subst, refl, drop_more, drop_all, flat_map, Data, Position, at, IsReached, All, AreRows, script_line}
use Rattle.gm_page.specs.Rows.{IsRow}
use Rattle.gm_page.proofs.Rowing.{HasRows, written_next, written_end}
use Rattle.gm_page.proofs.rows.push_rows.Goals as goal

pub at-requires : goal.at-requires
at-requires g c = subst (All (IsReached g.G.Game.rules c.args.start.now.position.tier)) (sym c.positions-p-items.ensures) c.requires c.loop-p.p-index
    (at 0 0) c.loop-p-test.true

pub loop-p-init : goal.loop-p-init
loop-p-init g c = λ rest are. (rest, are, refl)

pub loop-p-preserved : goal.loop-p-preserved
loop-p-preserved g c rest are =
    let r = g.G.Game.rules in
    let s = g.G.Shown.shown in
    let m = g.G.Shown.move_shown in
    let all = c.args.list.now in
    let (tree, is, e) = subst (λ (p : Position). (tree : Data) × IsRow r s m all p tree × (c.push_row.new.page.items ≡ c.loop-p.page.items ++ script_line tree))
    c.at.ensures c.in_ok-push_row.ensures in
    written_next (HasRows r s m all c.positions-p-items.result.now c.args.page.now.items) c.loop-p.page.items (script_line tree) c.push_row.new.page.items
    (flat_map script_line rest) e (c.loop-p.invariant (tree ∷ rest) (subst (λ (ps : List Position). AreRows r s m all ps (tree ∷ rest))
    (sym (drop_more c.positions-p-items.result.now c.loop-p.p-index (at 0 0) c.loop-p-test.true)) (is, are)))

pub returns : goal.returns
returns g c =
    let r = g.G.Game.rules in
    let s = g.G.Shown.shown in
    let m = g.G.Shown.move_shown in
    let all = c.args.list.now in
    let old = c.args.page.now.items in
    let items = c.positions-p-items.result.now in
    subst (λ (ps : List Position). HasRows r s m all ps old c.loop-p.page.items) c.positions-p-items.ensures
    (written_end (HasRows r s m all items old) c.loop-p.page.items
    (c.loop-p.invariant [] (subst (λ (ps : List Position). AreRows r s m all ps []) (sym (drop_all c.loop-p.p-index items c.loop-p-test.false)) tt)))
