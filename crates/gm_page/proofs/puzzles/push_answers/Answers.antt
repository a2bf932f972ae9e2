use Rattle.gm_page.proofs.Lower.{ap}
use Rattle.gm_page.specs.Puzzles.{answer_of}
use Rattle.gm_page.proofs.Sheeting.{items_more, items_all}
use Rattle.gm_page.proofs.puzzles.push_answers.Goals as goal

pub loop-p-preserved : goal.loop-p-preserved
loop-p-preserved c =
    items_more answer_of c.args.puzzles.now c.loop-p.p-index _ c.args.sheet.now.items c.loop-p.sheet.items c.push_answer.new.sheet.items _ c.loop-p-test.true
    c.loop-p.invariant c.in_ok-push_answer.ensures (ap answer_of c.p-item.is)

pub returns : goal.returns
returns c = items_all answer_of c.args.puzzles.now c.loop-p.p-index c.args.sheet.now.items c.loop-p.sheet.items c.loop-p-test.false c.loop-p.invariant
