use Rattle.gm_board.proofs.Lower.{arith}
use Rattle.gm_board.proofs.PackSteps.{pack_turn, pack_done}
use Rattle.gm_board.proofs.arrangement.pack.Goals as goal

pub overflow_sub-packed : goal.overflow_sub-packed
overflow_sub-packed c =
    let t = pack_turn _ _ _ _ _ _ c.loop-rest.invariant c.requires.mine c.requires.apart (omega arith) (omega arith) (omega arith) in t.passed_le

pub overflow_sub-packed-in-loop-rest : goal.overflow_sub-packed-in-loop-rest
overflow_sub-packed-in-loop-rest c =
    let t = pack_turn _ _ _ _ _ _ c.loop-rest.invariant c.requires.mine c.requires.apart (omega arith) (omega arith) (omega arith) in rw t.whole t.fits

pub overflow_add-passed : goal.overflow_add-passed
overflow_add-passed c =
    let t = pack_turn _ _ _ _ _ _ c.loop-rest.invariant c.requires.mine c.requires.apart (omega arith) (omega arith) (omega arith) in
    omega (arith, t.passed_le, t.shift)

pub loop-rest-preserved : goal.loop-rest-preserved
loop-rest-preserved c =
    let t = pack_turn _ _ _ _ _ _ c.loop-rest.invariant c.requires.mine c.requires.apart (omega arith) (omega arith) (omega arith) in rw t.whole t.after

pub returns : goal.returns
returns c = pack_done _ _ _ _ _ _ c.loop-rest.invariant c.requires.theirs c.loop-rest-test.false
