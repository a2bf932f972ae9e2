use Rattle.gm_table.proofs.Lower.{◌≡◌, ◌+◌, ◌<◌, None, Some, length, take, sym, ◌∙◌, ap, arith, run_in, indexes_at}
use Rattle.gm_table.proofs.HoleLemmas.{indexes_over}
use Rattle.gm_table.proofs.RunLemmas.{empty_runs, indexes_with}
use Rattle.gm_table.proofs.runs.Runs.of.Goals.{in-Some+in_ok-place, in_default}
use Rattle.gm_table.proofs.runs.Runs.of.Goals as goal

pub loop-index-init : goal.loop-index-init
loop-index-init c =
    let to = c.skip_holes-index in
    (to.ensures.high, λ phase n. empty_runs c.new.result c.new-2.result c.new.ensures.items c.new-2.ensures.items phase n ∙ indexes_over phase n c.args.records.now 0 to.result to.ensures.low to.ensures.high to.ensures.holes)

pub loop-index-preserved : goal.loop-index-preserved
loop-index-preserved c =
    let os = c.args.records.now in
    let i = c.loop-index.index in
    let test = c.loop-index-test.true in
    let long = c.len.ensures in
    let inside : i < length os = omega arith in
    let known = c.get.ensures in
    let to = c.skip_holes-index-in-loop-index in (
      to.ensures.high,
      λ phase n.
          let was = c.loop-index.invariant.1 phase n in
          let one : run_in c.match-get.runs phase n ≡ indexes_at phase n (take (i + 1) os) =
          elim c.match-get.branch [
            | in-Some+in_ok-place w ↦ ap (λ runs. run_in runs phase n) w.runs-is ∙ w.in_ok-place.ensures phase n
                ∙ indexes_with phase n i os (Some w.in-Some.solved) (run_in c.loop-index.runs phase n) inside (sym w.in-Some.is ∙ known) was
            | in_default w ↦ ap (λ runs. run_in runs phase n) w.runs-is
                ∙ indexes_with phase n i os None (run_in c.loop-index.runs phase n) inside (sym w.in_default.is ∙ known) was
          ] in
          one ∙ indexes_over phase n os (i + 1) to.result to.ensures.low to.ensures.high to.ensures.holes,
    )
