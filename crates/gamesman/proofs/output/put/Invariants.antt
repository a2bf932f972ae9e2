use Rattle.gamesman.proofs.Lower.{length, ◌≤◌, take, Appends}
use Rattle.gamesman.proofs.output.put.Given as goal

abbrev pub invariant-loop : goal.invariant-loop
invariant-loop g l = (l.done ≤ length l.text) × Appends (g.O.Write.contents l.initial.output) (g.O.Write.contents l.output) (take l.done l.text)
