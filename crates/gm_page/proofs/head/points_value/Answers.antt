use Rattle.gm_page.proofs.Lower.{◌≡◌, ◌+◌, ◌++◌, ◌∷◌, [], List, ℕ, ap, subst, ◌∙◌, drop, drop_more, drop_all, map, view, view-Array, Data, text, array, items_of}
use Rattle.std.proofs.lemmas.List.{map-append}
use Rattle.gm_draw.specs.Pictures.{texts}
use Rattle.std.specs.Borrow.{Bor}
use Rattle.gm_page.proofs.Rowing.{written_next, written_end}
use Rattle.gm_page.proofs.head.points_value.Goals as goal

pub loop-point-preserved : goal.loop-point-preserved
loop-point-preserved c =
    let points = c.args.points.now in
    let i = c.loop-point.point-index in
    let old = map view c.loop-point.cells.items in
    written_next (λ (ds : List Data). ds ≡ map text (texts points)) old _ (map view c.push.new.list.items) (map text (texts (drop (i + 1) points)))
    (ap (map view) c.in_ok-push.ensures.ok ∙ map-append view c.loop-point.cells.items _ ∙ ap (λ (d : Data). old ++ d ∷ []) c.in_ok-text_value.ensures)
    (subst (λ (ps : List (Bor (List ℕ))). old ++ map text (texts ps) ≡ map text (texts points)) (drop_more points i _ c.loop-point-test.true)
    c.loop-point.invariant)

pub returns : goal.returns
returns c =
    let points = c.args.points.now in
    let cells = map view c.loop-point.cells.items in
    view-Array c.loop-point.cells ∙ ap (λ (ds : List Data). array (items_of ds)) (written_end (λ (ds : List Data). ds ≡ map text (texts points)) cells
    (subst (λ (ps : List (Bor (List ℕ))). cells ++ map text (texts ps) ≡ map text (texts points))
    (drop_all c.loop-point.point-index points c.loop-point-test.false) c.loop-point.invariant))
