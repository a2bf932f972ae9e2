use Rattle.gm_table.proofs.Lower.{◌+◌, ◌<◌, length, ◌∙◌, ap, arith, WinLose, Ties}
use Rattle.gm_table.specs.Levels.{later}
use Rattle.gm_table.proofs.HoleLemmas.{greatest_over}
use Rattle.gm_table.proofs.LevelLemmas.{greatest_with_one}
use Rattle.gm_table.proofs.levels.greatest_levels.Goals as goal

pub loop-index-init : goal.loop-index-init
loop-index-init c =
    let os = c.args.records.now in
    let to = c.skip_holes-index in (
      to.ensures.high,
      greatest_over WinLose os 0 to.result to.ensures.low to.ensures.high to.ensures.holes,
      greatest_over Ties os 0 to.result to.ensures.low to.ensures.high to.ensures.holes,
    )

pub loop-index-preserved : goal.loop-index-preserved
loop-index-preserved c =
    let os = c.args.records.now in
    let l = c.loop-index in
    let (_, was, tied) = l.invariant in
    let test = c.loop-index-test.true in
    let long = c.len.ensures in
    let inside : l.index < length os = omega arith in
    let known = c.get-known.ensures in
    let to = c.skip_holes-index-in-loop-index in (
      to.ensures.high,
      c.later-win_lose.ensures ∙ ap (later l.win_lose) c.level_in.ensures ∙ greatest_with_one WinLose os l.index c.get-known.result l.win_lose inside known was
          ∙ greatest_over WinLose os (l.index + 1) to.result to.ensures.low to.ensures.high to.ensures.holes,
      c.later-ties.ensures ∙ ap (later l.ties) c.level_in-in-loop-index.ensures ∙ greatest_with_one Ties os l.index c.get-known.result l.ties inside known tied
          ∙ greatest_over Ties os (l.index + 1) to.result to.ensures.low to.ensures.high to.ensures.holes,
    )
