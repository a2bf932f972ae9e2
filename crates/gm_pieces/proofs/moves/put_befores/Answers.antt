use Rattle.gm_pieces.proofs.Lower.{◌+◌, ◌<◌, ℕ, [], map, range_with_len, put_all, least_index, sym, ap, ap₂, ◌∙◌, arith, board_game, edge_past}
use Rattle.std.specs.List.{filter_map}
use Rattle.gm_game.specs.Ascending.{put}
use Rattle.gm_pieces.specs.MoveGames.{before_at, befores}
use Rattle.gm_pieces.specs.inner.Tried.{number_at}
use Rattle.gm_pieces.specs.laws.MoveLaws.{before_skip, before_room}
use Rattle.gm_pieces.specs.laws.TriedFacts.{puts_none, puts_some, puts_same, edge_at}
use Rattle.gm_pieces.proofs.moves.put_befores.Goals.{in-Some, in-None}
use Rattle.gm_pieces.proofs.moves.put_befores.Goals as goal

pub loop-place-init : goal.loop-place-init
loop-place-init g c =
    let r = g.T.MoveRules.game in
    c.clear.ensures
    ∙ sym (puts_none c.earlier_candidates-candidates.ensures (least_index (board_game r)) (before_skip r c.args.tier (g.T.MoveRules.cells c.args.board)))

pub put-requires : goal.put-requires
put-requires g c =
    let r = g.T.MoveRules.game in
    let d = g.T.MoveRules.cells c.args.board in
    let t = c.args.tier in
    let k = c.loop-place.place in
    let cs = c.earlier_candidates-candidates.result in
    let h = c.earlier_candidates-candidates.ensures in
    let f = least_index (board_game r) in
    let below : k < cs.low.count + cs.high.count = omega (arith, c.loop-place-test.true, c.count-place-end.ensures) in
    before_room r g.met.T.MoveRules.lawful f t d (number_at cs k) (g.T.MoveRules.cells c.in-Some.earlier) c.loop-place.list.items c.requires
    (h.below k below) (ap (before_at r t d) (sym c.number.ensures) ∙ c.in-Some.ensures.0)
    (c.loop-place.invariant
    ∙ ap (λ (m : ℕ). put_all [] (map f (filter_map (before_at r t d) (range_with_len 0 m)))) (edge_at h k below))

pub loop-place-preserved : goal.loop-place-preserved
loop-place-preserved g c =
    let r = g.T.MoveRules.game in
    let d = g.T.MoveRules.cells c.args.board in
    let t = c.args.tier in
    let k = c.loop-place.place in
    let cs = c.earlier_candidates-candidates.result in
    let h = c.earlier_candidates-candidates.ensures in
    let f = least_index (board_game r) in
    let below : k < cs.low.count + cs.high.count = omega (arith, c.loop-place-test.true, c.count-place-end.ensures) in
    elim c.match-before.branch [
      | in-Some w ↦ rw w.list-is (w.put.ensures ∙ ap₂ put w.least_index.ensures c.loop-place.invariant
          ∙ sym (puts_some h f (before_skip r t d) k (g.T.MoveRules.cells w.in-Some.earlier) below
          (ap (before_at r t d) (sym c.number.ensures) ∙ w.in-Some.ensures.0)))
      | in-None w ↦ rw w.list-is (c.loop-place.invariant
          ∙ sym (puts_same h f (before_skip r t d) k below
          (ap (before_at r t d) (sym c.number.ensures) ∙ w.in-None.ensures)))
    ]

pub returns : goal.returns
unfolding befores
returns g c =
    let r = g.T.MoveRules.game in
    let d = g.T.MoveRules.cells c.args.board in
    let t = c.args.tier in
    c.loop-place.invariant
    ∙ ap (λ (m : ℕ). put_all [] (map (least_index (board_game r)) (filter_map (before_at r t d) (range_with_len 0 m))))
    (edge_past c.earlier_candidates-candidates.ensures c.loop-place.place (omega (arith, c.loop-place-test.false, c.count-place-end.ensures)))
