use Rattle.gm_frontier.proofs.Lower.{◌≡◌, length, take, joined}
use Rattle.gm_frontier.proofs.part.note_count.Given as goal

abbrev pub invariant-loop-part : goal.invariant-loop-part
invariant-loop-part g l = l.count ≡ length (joined (take l.part-index l.parts))
