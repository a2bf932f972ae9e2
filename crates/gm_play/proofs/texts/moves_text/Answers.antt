use Rattle.gm_play.proofs.Lower.{refl, ap, sym, subst, ◌∙◌, All, flat_map, IsMoveOf}
use Rattle.gm_play.specs.PlayTexts.{move_row}
use Rattle.gm_play.proofs.Rows.{flat_more, flat_all}
use Rattle.gm_play.proofs.texts.moves_text.Goals as goal

pub push_move-requires : goal.push_move-requires
push_move-requires g c = subst (All (IsMoveOf g.G.Game.rules c.args.known.now.position)) (sym c.as_slice-x-items.ensures.value)
    c.moves_of-list.ensures.each c.loop-x.x-index _ c.loop-x-test.true

pub loop-x-preserved : goal.loop-x-preserved
loop-x-preserved g c =
    flat_more (move_row g.G.Game.rules g.G.Shown.shown g.G.Shown.move_shown c.args.known.now.position) c.as_slice-x-items.result.now c.loop-x.x-index _
    c.loop-x.rows.items c.push_move.new.rows.items _ c.loop-x-test.true c.loop-x.invariant c.in_ok-push_move.ensures refl

pub returns : goal.returns
returns g c =
    let known = c.args.known.now in
    let found = c.moves_of-list.ensures.moves in
    let row = move_row g.G.Game.rules g.G.Shown.shown g.G.Shown.move_shown known.position in (
      known.position,
      (known.legal, refl),
      found.list,
      found.values,
      found.best,
      flat_all row c.as_slice-x-items.result.now c.loop-x.x-index c.loop-x.rows.items c.loop-x-test.false c.loop-x.invariant
          ∙ ap (flat_map row) (c.as_slice-x-items.ensures.value ∙ found.are),
    )
