use Rattle.gm_page.proofs.Sheeting.{numbered_next}
use Rattle.gm_page.proofs.puzzles.push_items.Goals as goal

pub loop-k-preserved : goal.loop-k-preserved
loop-k-preserved c =
    numbered_next c.args.caption c.args.puzzles.now c.loop-k.k _ c.index-puzzles-k.result c.args.sheet.now.items c.loop-k.sheet.items c.push_item_of.new.sheet.items c.loop-k-test.true
    c.loop-k.invariant c.index-puzzles-k.is c.in_ok-push_item_of.ensures
