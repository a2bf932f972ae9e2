use Rattle.gm_page.proofs.ReadingRows.{head_read, row_read}
use Rattle.gm_page.proofs.Scripting.{lines_open_none}
use Rattle.gm_page.proofs.page.lines_are_read.Goals as goal

pub returns-clause-closed : goal.returns-clause-closed
returns-clause-closed g c = lines_open_none

pub returns-clause-head : goal.returns-clause-head
returns-clause-head g c =
    head_read g.G.Game.rules.name g.G.Pictured.picture c.args.start.now c.args.whole

pub returns-clause-rows : goal.returns-clause-rows
returns-clause-rows g c = row_read g.G.Shown.shown g.G.Shown.move_shown c.args.list.now
