use Rattle.gm_pieces.proofs.Lower.{ℕ, List, length, filter, range_with_len, sym, ap, ◌∙◌, arith, edge_past}
use Rattle.std.proofs.Common.{eqb}
use Rattle.gm_pieces.specs.laws.MoveLaws.{step_listed}
use Rattle.gm_pieces.specs.laws.TriedFacts.{tried_none, tried_out}
use Rattle.gm_pieces.specs.MoveGames.{steps}
use Rattle.gm_pieces.proofs.moves.has_no_move.Goals as goal

pub loop-place-init : goal.loop-place-init
loop-place-init g c = tried_none c.candidates-candidates.ensures

pub returns-then-can_move : goal.returns-then-can_move
returns-then-can_move g c =
    let r = g.T.MoveRules.game in
    let b = g.T.MoveRules.cells c.args.board in
    sym (step_listed r b _ (c.candidates-candidates.ensures.below c.loop-place.place (omega (arith, c.loop-place-test.true, c.count-place-end.ensures)))
    (ap (r.can_move b) (sym c.number.ensures) ∙ sym c.can_move.ensures ∙ c.if-can_move.true))

pub loop-place-preserved : goal.loop-place-preserved
loop-place-preserved g c =
    let r = g.T.MoveRules.game in
    let b = g.T.MoveRules.cells c.args.board in
    tried_out c.candidates-candidates.ensures c.loop-place.place (omega (arith, c.loop-place-test.true, c.count-place-end.ensures))
    (ap (r.can_move b) (sym c.number.ensures) ∙ sym c.can_move.ensures ∙ c.if-can_move.false)
    ∙ c.loop-place.invariant

pub returns : goal.returns
unfolding steps
returns g c =
    let r = g.T.MoveRules.game in
    let b = g.T.MoveRules.cells c.args.board in
    sym (ap (λ (xs : List ℕ). eqb (length xs) 0)
    (ap (λ (m : ℕ). filter (r.can_move b) (range_with_len 0 m)) (sym (edge_past c.candidates-candidates.ensures c.loop-place.place
    (omega (arith, c.loop-place-test.false, c.count-place-end.ensures))))
    ∙ c.loop-place.invariant))
