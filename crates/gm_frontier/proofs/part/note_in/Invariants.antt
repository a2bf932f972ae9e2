use Rattle.gm_frontier.proofs.Lower.{◌≡◌, ◌<◌, ◌-◌, length, get_or, drop, NoteData, joined}
use Rattle.gm_frontier.proofs.part.note_in.Given as goal

abbrev pub invariant-loop-left : goal.invariant-loop-left
invariant-loop-left g l = record {
  in_range : l.left < length (joined (drop l.passed l.parts));
  same : (d : NoteData) → get_or (joined l.parts) l.k d ≡ get_or (joined (drop l.passed l.parts)) l.left d;
}

abbrev pub decreases-loop-left : goal.decreases-loop-left
decreases-loop-left g l = length l.parts - l.passed
