use Rattle.gm_json.proofs.Lower.{[], List, subst, sym, All, MoveValue}
use Rattle.std.proofs.lemmas.Result.{IfOk-weaker}
use Rattle.gm_play.specs.PlayTexts.{IsMoveOf, AreMovesOf}
use Rattle.gm_json.proofs.Answering.{with_moves, without_moves}
use Rattle.gm_json.proofs.answer.position_json.Goals as goal

pub whole_json-requires-2 : goal.whole_json-requires-2
whole_json-requires-2 g c = subst (All (IsMoveOf g.G.Game.rules c.args.known.now.position)) (sym c.as_slice.ensures.value) c.moves_of-list.ensures.each

pub returns-then-asked : goal.returns-then-asked
returns-then-asked g c =
    let known = c.args.known.now in
    IfOk-weaker c.whole_json.result _ _ (λ v told. without_moves g.G.Game.rules g.G.Shown.shown g.G.Shown.move_shown c.args.asked c.args.tiers.now v.items
    known.position known.legal [] c.if-asked.true told) c.whole_json.ensures

pub returns : goal.returns
returns g c =
    let r = g.G.Game.rules in
    let known = c.args.known.now in
    let found = subst (λ (xs : List MoveValue). AreMovesOf r c.args.asked.distinct known.position xs) (sym c.as_slice.ensures.value)
    c.moves_of-list.ensures.moves in
    IfOk-weaker c.whole_json-2.result _ _ (λ v told. with_moves r g.G.Shown.shown g.G.Shown.move_shown c.args.asked c.args.tiers.now v.items known.position
    known.legal _ found told) c.whole_json-2.ensures
