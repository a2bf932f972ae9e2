use Rattle.gm_frontier.proofs.Lower.{IfOk-from_err, ◌∙◌, joined, RunData}
use Rattle.gm_frontier.specs.Levels.{IsRunOfNotes}
use Rattle.gm_frontier.proofs.PieceLemmas.{joined_more, all_more, all_taken}
use Rattle.gm_frontier.proofs.part.push_runs.Goals as goal

pub loop-run-preserved : goal.loop-run-preserved
loop-run-preserved g c =
    let runs = c.args.runs.now in
    let run = c.run-item.result in
    let i = c.loop-run.run-index in
    record {
      notes = joined_more (λ (x : RunData). x.notes) runs i run run (joined c.args.parts.now.items) (joined c.loop-run.parts.items)
          (joined c.push_part.new.parts.items) c.listed.result
          c.loop-run-test.true c.run-item.is c.loop-run.invariant.notes c.in_ok-push_part.ensures (c.listed.ensures ∙ c.list.ensures.value);
      whole = all_more (λ (x : RunData). IsRunOfNotes g.G.Game.rules x.place x.lo x.hi x.notes)
          runs i run run c.loop-run-test.true c.run-item.is c.loop-run.invariant.whole c.list.ensures.run;
    }

pub returns-clause-whole : goal.returns-clause-whole
returns-clause-whole g c = all_taken (λ (x : RunData). IsRunOfNotes g.G.Game.rules x.place x.lo x.hi x.notes)
    c.args.runs.now c.loop-run.run-index c.loop-run-test.false c.loop-run.invariant.whole

pub returns-in_err-push_part-clause-notes : goal.returns-in_err-push_part-clause-notes
returns-in_err-push_part-clause-notes g c = IfOk-from_err c.from_residual.result _ c.from_residual.ensures.0

pub returns-in_err-push_part-clause-whole : goal.returns-in_err-push_part-clause-whole
returns-in_err-push_part-clause-whole g c = IfOk-from_err c.from_residual.result _ c.from_residual.ensures.0
