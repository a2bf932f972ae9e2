use Rattle.gm_draw.proofs.Lower.{◌≡◌, ◌≤◌, drop}
use Rattle.gm_draw.specs.Diagrams.{widest}
use Rattle.gm_draw.proofs.frame.widest.Given as goal

abbrev pub invariant-loop-byte : goal.invariant-loop-byte
invariant-loop-byte l = record {
  done : widest l.n l.longest (drop l.byte-index l.drawing) ≡ widest 0 0 l.drawing;
  line : l.n ≤ l.byte-index;
  small : l.longest ≤ l.byte-index;
}
