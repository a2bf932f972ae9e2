use Rattle.gamesman.proofs.Lower.{◌≡◌, length}
use Rattle.gamesman.proofs.sheet.blank_parts.Given as goal

abbrev pub invariant-loop : goal.invariant-loop
invariant-loop l = length l.puzzles.items ≡ l.counter
