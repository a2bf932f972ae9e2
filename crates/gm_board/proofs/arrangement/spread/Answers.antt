use Rattle.gm_board.proofs.Lower.{◌≤◌, ◌^◌, arith, pow_mono}
use Rattle.gm_board.proofs.PackSteps.{spread_turn, spread_done, spread_below}
use Rattle.gm_board.proofs.arrangement.spread.Goals as goal

pub overflow_add-theirs : goal.overflow_add-theirs
overflow_add-theirs c =
    let t = spread_turn _ _ _ _ _ c.loop-rest.invariant c.requires.cells c.requires.mine (omega arith) (omega arith) in rw t.whole (omega (arith, t.fits))

pub loop-rest-preserved : goal.loop-rest-preserved
loop-rest-preserved c =
    let t = spread_turn _ _ _ _ _ c.loop-rest.invariant c.requires.cells c.requires.mine (omega arith) (omega arith) in rw t.whole t.after

pub overflow_cast-result : goal.overflow_cast-result
overflow_cast-result c =
    let e = spread_done _ _ _ _ _ c.loop-rest.invariant c.requires.mine c.requires.packed c.loop-rest-test.false in
    let p : 2 ^ c.args.cells ≤ 2 ^ 32 = pow_mono c.requires.cells in
    omega (arith, e, p, spread_below c.args.cells c.args.mine c.args.packed)

pub returns : goal.returns
returns c = spread_done _ _ _ _ _ c.loop-rest.invariant c.requires.mine c.requires.packed c.loop-rest-test.false
