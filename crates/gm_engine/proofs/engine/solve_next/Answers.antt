use Rattle.gm_engine.proofs.Lower.{rules, length}
use Rattle.gm_engine.proofs.Refused.{unadded, unsolved_before, unsolved_here}
use Rattle.gm_engine.proofs.engine.solve_next.Goals as goal

pub returns-in_err-hold_all-clause-refused : goal.returns-in_err-hold_all-clause-refused
returns-in_err-hold_all-clause-refused g c =
    let why = unsolved_before g.G.Game.rules c.args.width c.args.solved.now c.args.tier (length c.args.out.now) c.in_err-hold_all.field-0.0
    c.in_err-hold_all.ensures.refused in
    search rules

pub returns-in_err-table-clause-refused : goal.returns-in_err-table-clause-refused
returns-in_err-table-clause-refused g c =
    let why = unsolved_here g.G.Game.rules c.args.width c.hold_all.new.tables c.args.solved.now c.args.tier (length c.args.out.now) c.in_ok-hold_all.ensures.held
    c.in_err-table.field-0.0 c.in_err-table.ensures.refused in
    search rules

pub returns-in_err-add-clause-refused : goal.returns-in_err-add-clause-refused
returns-in_err-add-clause-refused g c =
    let r = g.G.Game.rules in
    let why = unadded r c.args.width c.hold_all.new.tables c.args.tier c.in_ok-table.table c.in_ok-table.ensures.table c.in_ok-table.ensures.tier c.in_err-add.field-0.0
    c.in_err-add.ensures.refused in
    let all = unsolved_here r c.args.width c.hold_all.new.tables c.args.solved.now c.args.tier (length c.args.out.now) c.in_ok-hold_all.ensures.held
    c.in_err-add.field-0.0 why in
    search rules
