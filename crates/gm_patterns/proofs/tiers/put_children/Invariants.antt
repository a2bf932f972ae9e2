use Rattle.std.specs.Prelude.{◌≡◌}
use Rattle.gm_patterns.specs.PatternGames.{steps_of, child_by}
use Rattle.gm_patterns.proofs.ChildSteps.{puts}
use Rattle.gm_patterns.proofs.tiers.put_children.Given as goal

abbrev pub invariant-loop-number : goal.invariant-loop-number
invariant-loop-number g l =
    let n = g.row.CELLS in
    let game = g.T.PatternRules.game in
    l.list.items ≡ puts (child_by n game l.mine l.theirs) l.fn.list.items (steps_of n game l.tier) l.number
