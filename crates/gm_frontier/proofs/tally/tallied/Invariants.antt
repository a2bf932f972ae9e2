use Rattle.gm_frontier.proofs.Lower.{◌≡◌, sum_by, take, get_or, Contains, TallyData, IsTally}
use Rattle.gm_frontier.proofs.tally.tallied.Given as goal

abbrev pub invariant-loop-tally : goal.invariant-loop-tally
invariant-loop-tally g l = record {
  sum : l.number ≡ sum_by (λ (t : TallyData). get_or t.counts l.tile 0) (take l.tally-index l.tallies);
  are : (t : TallyData) → Contains (take l.tally-index l.tallies) t → IsTally g.G.Game.rules t;
}
