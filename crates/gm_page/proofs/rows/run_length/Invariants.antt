use Rattle.gm_page.proofs.Lower.{◌≡◌, ◌-◌, ◌≤◌, length, take, All, MoveValue}
use Rattle.gm_page.proofs.rows.run_length.Given as goal

abbrev pub invariant-loop-count : goal.invariant-loop-count
invariant-loop-count l = record {
  within : l.count ≤ length l.moves;
  same : All (λ (x : MoveValue). x.worth ≡ l.fn.worth) (take l.count l.moves);
}

abbrev pub decreases-loop-count : goal.decreases-loop-count
decreases-loop-count l = length l.moves - l.count
