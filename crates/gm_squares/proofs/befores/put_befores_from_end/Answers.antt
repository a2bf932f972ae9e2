use Rattle.gm_pieces.proofs.Lower.{◌≡◌, ℕ, length, List, map, subst, sym, ap, ◌∙◌, arith, board_game, least_index, put_all}
use Rattle.gm_game.specs.Rules.{IsAscending}
use Rattle.gm_game.specs.Ascending.{put}
use Rattle.gm_board.specs.laws.Lists.{and_left, and_right}
use Rattle.gm_game.proofs.Putting.{put_few, put_ascending}
use Rattle.gm_pieces.specs.inner.Marking.{marked, index_before}
use Rattle.gm_pieces.specs.laws.MarkedFacts.{first_in, later_in, one_less, marked_led, led_fits, befores_room, befores_marked}
use Rattle.gm_squares.proofs.befores.put_befores_from_end.Goals as goal

pub loop-number-init : goal.loop-number-init
loop-number-init g c =
    let r = g.T.MoveRules.game in
    let d = g.T.MoveRules.cells c.args.board in
    let m = c.earlier_marks-marks in
    let none = c.clear.ensures in
    record {
      led = marked_led r c.args.tier d m.result m.ensures;
      up = subst IsAscending (sym none) tt;
      room =
          (let x = befores_room r g.met.T.MoveRules.lawful c.args.tier d m.result c.requires m.ensures in
          let z = ap (λ (is : List ℕ). length is) none in
          omega (arith, x, z));
      same = ap (λ (is : List ℕ). put_all is (map (index_before r c.args.tier d) (marked m.result))) none ∙ befores_marked r c.args.tier d m.result m.ensures;
    }

pub overflow_cast-number : goal.overflow_cast-number
overflow_cast-number g c =
    let first = first_in _ _ _ c.in-Some.ensures in
    let fits = led_fits g.T.MoveRules.game g.met.T.MoveRules.lawful c.args.tier _ _ (c.loop-number.invariant.led _ first) in
    omega (arith, fits)

-- the move with the number led to the board
pub undo-requires-clause-below : goal.undo-requires-clause-below
undo-requires-clause-below g c = (c.loop-number.invariant.led _ (first_in _ _ _ c.in-Some.ensures)).below

pub undo-requires-clause-was : goal.undo-requires-clause-was
undo-requires-clause-was g c = and_left _ _ (c.loop-number.invariant.led _ (first_in _ _ _ c.in-Some.ensures)).led

pub least_index-requires : goal.least_index-requires
least_index-requires g c =
    ap g.T.MoveRules.game.legal c.undo.ensures ∙ and_left _ _ (and_right _ _ (c.loop-number.invariant.led _ (first_in _ _ _ c.in-Some.ensures)).led)

pub put_from_end-requires-clause-room : goal.put_from_end-requires-clause-room
put_from_end-requires-clause-room g c = let less = one_less _ _ _ c.in-Some.ensures in let room = c.loop-number.invariant.room in omega (arith, less, room)

pub loop-number-preserved : goal.loop-number-preserved
loop-number-preserved g c =
    let r = g.T.MoveRules.game in
    let d = g.T.MoveRules.cells c.args.board in
    let before = index_before r c.args.tier d in
    let w = c.loop-number.invariant in
    let split = c.in-Some.ensures in
    let old = c.loop-number.list.items in
    let is : c.least_index.result ≡ before c.in-Some.number = c.least_index.ensures ∙ ap (least_index (board_game r)) c.undo.ensures in
    let putted = c.put_from_end.ensures in
    record {
      led = λ m i. w.led m (later_in _ m _ _ split i);
      up = subst IsAscending (sym putted) (put_ascending c.least_index.result old w.up);
      room =
          (let less = one_less _ _ _ split in
          let room = w.room in
          let x = ap (λ (is : List ℕ). length is) putted in
          let y = put_few c.least_index.result old in
          omega (arith, less, room, x, y));
      same = ap (λ (is : List ℕ). put_all is (map before (marked c.in-Some.rest))) (putted ∙ ap (λ (x : ℕ). put x old) is)
          ∙ sym (ap (λ (ns : List ℕ). put_all old (map before ns)) split)
          ∙ w.same;
    }

pub loop-number-smaller : goal.loop-number-smaller
loop-number-smaller g c = let less = one_less _ _ _ c.in-Some.ensures in omega (arith, less)

pub returns : goal.returns
returns g c =
    let before = index_before g.T.MoveRules.game c.args.tier (g.T.MoveRules.cells c.args.board) in
    sym (ap (λ (ns : List ℕ). put_all c.loop-number.list.items (map before ns)) c.in_default.ensures) ∙ c.loop-number.invariant.same
