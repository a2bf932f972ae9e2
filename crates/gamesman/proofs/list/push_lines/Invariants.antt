use Rattle.gamesman.proofs.Lower.{◌≡◌, ℕ, List, ◌++◌, drop}
use Rattle.gm_json.specs.Asking.{lines_from, lines_of}
use Rattle.gamesman.specs.Lists.{IsListOf}
use Rattle.gamesman.proofs.list.push_lines.Given as goal

abbrev pub invariant-loop-byte : goal.invariant-loop-byte
invariant-loop-byte l =
    (done : List (List ℕ)) × (lines_of l.bytes ≡ done ++ lines_from l.line.items (drop l.byte-index l.bytes)) × IsListOf l.all done l.list
