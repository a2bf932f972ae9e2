use Rattle.gamesman.proofs.Lower.{rules}
use Rattle.gm_play.proofs.Parts.{part_stuck, part_kept}
use Rattle.gamesman.proofs.Fronts.{more_written, same_written, part_of}
use Rattle.gamesman.proofs.output.put.Goals.{in-Ok, in-Err}
use Rattle.gamesman.proofs.output.put.Goals as goal

pub loop-preserved : goal.loop-preserved
loop-preserved g c =
    let inv = c.loop.invariant in
    elim c.match-write.branch [
      | in-Ok w ↦ more_written _ _ _ c.loop.done c.args.text.now inv.0 inv.1 w.in-Ok.count c.match-write.done w.in-Ok.ensures.bound w.in-Ok.ensures.bytes
          w.done-is
      | in-Err w ↦ same_written _ _ _ c.loop.done c.args.text.now inv.0 inv.1 c.match-write.done w.in-Err.ensures.bytes w.done-is
    ]

pub returns-in-Ok-eq0-clause-err : goal.returns-in-Ok-eq0-clause-err
returns-in-Ok-eq0-clause-err g c = part_stuck _ _ _ c.loop.done c.in-Ok-eq0.field-0 c.args.text.now _ c.loop.invariant.1
    (rw c.in-Ok-eq0.is at c.write.ensures.bytes) (search rules)

pub returns-in-Err-2-clause-err : goal.returns-in-Err-2-clause-err
returns-in-Err-2-clause-err g c = part_kept _ _ _ c.loop.done c.args.text.now c.loop.invariant.1 c.in-Err-2.ensures.bytes

pub returns-clause-err : goal.returns-clause-err
returns-clause-err g c = part_of _ _ c.loop.done c.args.text.now c.loop.invariant.1
