use Rattle.std.specs.Prelude.{◌<◌, length}
use Rattle.gm_pieces.specs.Common.{ℕ, List, sym, ap, ◌∙◌, arith, put, take_all, put_all, filter_map}
use Rattle.gm_patterns.specs.PatternGames.{steps_of, step_at, no_step, child_by}
use Rattle.gm_patterns.specs.declared.step.Step.{Step}
use Rattle.gm_patterns.proofs.ChildSteps.{puts_some, puts_none, puts_few}
use Rattle.gm_patterns.proofs.tiers.put_children.Goals.{in-Some, in-None}
use Rattle.gm_patterns.proofs.tiers.put_children.Goals as goal

pub put-requires : goal.put-requires
put-requires g c =
    let n = g.row.CELLS in
    let steps = steps_of n g.T.PatternRules.game c.args.tier in
    let h = child_by n g.T.PatternRules.game c.args.mine c.args.theirs in
    let less = puts_few h c.args.list.now.items steps c.loop-number.number in
    let is = ap (λ (xs : List ℕ). length xs) c.loop-number.invariant in
    omega (arith, c.requires.room, less, is)

pub loop-number-preserved : goal.loop-number-preserved
unfolding step_at
loop-number-preserved g c =
    let n = g.row.CELLS in
    let steps = steps_of n g.T.PatternRules.game c.args.tier in
    let h = child_by n g.T.PatternRules.game c.args.mine c.args.theirs in
    let k = c.loop-number.number in
    let below : k < length steps = omega (arith, c.loop-number-test.true, c.step_count-number-end.ensures) in
    let is = ap h (sym c.step_at.ensures.step) ∙ sym c.child_by.ensures in
    elim c.match-child_by.branch [
      | in-Some w ↦ rw w.list-is (w.put.ensures ∙ ap (put w.in-Some.child) c.loop-number.invariant
          ∙ sym (puts_some h c.args.list.now.items steps k w.in-Some.child no_step below (is ∙ w.in-Some.is)))
      | in-None w ↦ rw w.list-is (c.loop-number.invariant
          ∙ sym (puts_none h c.args.list.now.items steps k no_step below (is ∙ w.in-None.is)))
    ]

pub returns : goal.returns
returns g c =
    let n = g.row.CELLS in
    let steps = steps_of n g.T.PatternRules.game c.args.tier in
    let h = child_by n g.T.PatternRules.game c.args.mine c.args.theirs in
    c.loop-number.invariant
    ∙ ap (λ (ss : List Step). put_all c.args.list.now.items (filter_map h ss))
    (take_all c.loop-number.number steps (omega (arith, c.loop-number-test.false, c.step_count-number-end.ensures)))
