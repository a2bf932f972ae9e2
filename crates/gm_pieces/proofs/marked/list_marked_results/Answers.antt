use Rattle.gm_pieces.proofs.Lower.{◌≡◌, ◌<◌, ◌++◌, ◌∷◌, ℕ, [], length, map, List, Position, HasSame, sym, ap, subst, ◌∙◌, arith, next_images, board_game, position_after}
use Rattle.std.proofs.Common.{true, append_assoc}
use Rattle.gm_game.specs.Boards.{least_image}
use Rattle.gm_pieces.specs.laws.MoveLaws.{plays, plays_not}
use Rattle.std.proofs.lemmas.List.{append-nil, length-append}
use Rattle.gm_pieces.specs.inner.Marking.{marked}
use Rattle.gm_pieces.specs.laws.MarkedFacts.{first_in, later_in, one_less, marked_move, move_fits, steps_counted, results_marked, results_over}
use Rattle.gm_pieces.proofs.marked.list_marked_results.Goals as goal

pub returns-then-not-plays_on : goal.returns-then-not-plays_on
returns-then-not-plays_on g c =
    let r = g.T.MoveRules.game in
    let b = g.T.MoveRules.cells c.args.board in
    subst (HasSame (next_images (board_game r) b)) (sym c.clear.ensures)
    (results_over r b (plays_not _ (sym c.plays_on.ensures ∙ c.if-not-plays_on.true)))

pub loop-number-init : goal.loop-number-init
loop-number-init g c =
    let r = g.T.MoveRules.game in
    let b = g.T.MoveRules.cells c.args.board in
    let m = c.open_marks-marks in
    let on = plays _ (sym c.plays_on.ensures ∙ c.if-not-plays_on.false) in
    let none = c.clear.ensures in
    record {
      moves = marked_move r b m.result m.ensures on;
      room =
          (let x = steps_counted r b m.result m.ensures in
          let y = g.met.T.MoveRules.lawful.moves_few b c.requires in
          let z = ap (λ (ps : List Position). length ps) none in
          omega (arith, x, y, z));
      same = subst (λ (ps : List Position). HasSame (next_images (board_game r) b) (ps ++ map (position_after r b) (marked m.result))) (sym none)
          (results_marked r b m.result m.ensures on);
    }

pub overflow_cast-number : goal.overflow_cast-number
overflow_cast-number g c =
    let first = first_in _ _ _ c.in-Some.ensures in
    let fits = move_fits g.T.MoveRules.game g.met.T.MoveRules.lawful _ _ (c.loop-number.invariant.moves _ first) in
    omega (arith, fits)

pub moved-requires-clause-step : goal.moved-requires-clause-step
moved-requires-clause-step g c = c.loop-number.invariant.moves _ (first_in _ _ _ c.in-Some.ensures)

pub least_position-requires : goal.least_position-requires
least_position-requires g c =
    let r = g.T.MoveRules.game in
    let move = c.loop-number.invariant.moves _ (first_in _ _ _ c.in-Some.ensures) in
    subst (λ (x : g.T.MoveRules.Cells). r.legal x ≡ true) (sym c.moved.ensures)
    (g.met.T.MoveRules.lawful.moved_legal (g.T.MoveRules.cells c.args.board) _ c.requires move)

pub push-requires : goal.push-requires
push-requires g c =
    let less = one_less _ _ _ c.in-Some.ensures in
    let room = c.loop-number.invariant.room in
    let few : length c.loop-number.list.items < 128 = omega (arith, less, room) in
    (omega arith, few)

pub loop-number-preserved : goal.loop-number-preserved
loop-number-preserved g c =
    let r = g.T.MoveRules.game in
    let b = g.T.MoveRules.cells c.args.board in
    let after = position_after r b in
    let w = c.loop-number.invariant in
    let split = c.in-Some.ensures in
    let before = c.loop-number.list.items in
    let p = c.least_position.result in
    let is : p ≡ after c.in-Some.number = c.least_position.ensures ∙ ap (least_image (board_game r)) c.moved.ensures in
    let pushed = c.push.ensures.items in
    record {
      moves = λ m i. w.moves m (later_in _ m _ _ split i);
      room =
          (let less = one_less _ _ _ split in
          let room = w.room in
          let x = ap (λ (ps : List Position). length ps) pushed in
          let y = length-append before (p ∷ []) in
          omega (arith, less, room, x, y));
      same = subst (HasSame (next_images (board_game r) b))
          (ap (λ (ns : List ℕ). before ++ map after ns) split
          ∙ ap (λ (q : Position). before ++ q ∷ map after (marked c.in-Some.rest)) (sym is)
          ∙ sym (append_assoc before (p ∷ []) (map after (marked c.in-Some.rest)))
          ∙ ap (λ (ps : List Position). ps ++ map after (marked c.in-Some.rest)) (sym pushed))
          w.same;
    }

pub loop-number-smaller : goal.loop-number-smaller
loop-number-smaller g c = let less = one_less _ _ _ c.in-Some.ensures in omega (arith, less)

pub returns : goal.returns
returns g c =
    let r = g.T.MoveRules.game in
    let b = g.T.MoveRules.cells c.args.board in
    subst (HasSame (next_images (board_game r) b))
    (ap (λ (ns : List ℕ). c.loop-number.list.items ++ map (position_after r b) ns) c.in_default.ensures ∙ append-nil c.loop-number.list.items)
    c.loop-number.invariant.same
