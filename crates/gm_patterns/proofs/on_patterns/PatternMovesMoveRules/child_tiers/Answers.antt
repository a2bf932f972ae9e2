use Rattle.std.specs.Prelude.{◌+◌, ◌<◌, ◌≤◌}
use Rattle.gm_pieces.specs.Common.{sym, ◌∙◌, arith}
use Rattle.gm_patterns.specs.PatternGames.{more, fewer}
use Rattle.gm_patterns.proofs.ChildSteps.{children_are, no_children, first_room, rest_room}
use Rattle.gm_patterns.proofs.on_patterns.PatternMovesMoveRules.child_tiers.Goals as goal

pub put_children-requires-clause-room : goal.put_children-requires-clause-room
put_children-requires-clause-room g c =
    let t = c.args.tier in
    let e = c.numbers_in-more.ensures in
    let order : fewer g.T.PatternRules.game t ≤ more g.T.PatternRules.game t = omega (arith, e.more, e.fewer, c.if-fewer-more.false) in
    let room = first_room g.row.CELLS g.T.PatternRules.game g.met.T.PatternRules.right.tables t order in
    rw (c.new-list.ensures, e.more, e.fewer) (omega (arith, room))

pub put_children-requires-2-clause-room : goal.put_children-requires-2-clause-room
put_children-requires-2-clause-room g c =
    let t = c.args.tier in
    let e = c.numbers_in-more.ensures in
    let order : fewer g.T.PatternRules.game t ≤ more g.T.PatternRules.game t = omega (arith, e.more, e.fewer, c.if-fewer-more.false) in
    let room = rest_room g.row.CELLS g.T.PatternRules.game g.met.T.PatternRules.right.tables t order in
    rw (c.put_children.ensures, c.new-list.ensures, e.more, e.fewer) (omega (arith, room))

pub as_children-requires : goal.as_children-requires
as_children-requires g c =
    let t = c.args.tier in
    let e = c.numbers_in-more.ensures in
    let order : fewer g.T.PatternRules.game t ≤ more g.T.PatternRules.game t = omega (arith, e.more, e.fewer, c.if-fewer-more.false) in
    let room = rest_room g.row.CELLS g.T.PatternRules.game g.met.T.PatternRules.right.tables t order in
    rw (c.as_slice.ensures.value, c.put_children-2.ensures, c.put_children.ensures, c.new-list.ensures, e.more, e.fewer) (omega (arith, room))

pub returns : goal.returns
returns g c =
    let t = c.args.tier in
    let e = c.numbers_in-more.ensures in
    let order : fewer g.T.PatternRules.game t ≤ more g.T.PatternRules.game t = omega (arith, e.more, e.fewer, c.if-fewer-more.false) in
    let are = children_are g.row.CELLS g.T.PatternRules.game g.met.T.PatternRules.right.tables t order in
    rw (c.as_children.ensures, c.as_slice.ensures.value, c.put_children-2.ensures, c.put_children.ensures, c.new-list.ensures, e.more, e.fewer) (sym are)

pub returns-then-more-fewer : goal.returns-then-more-fewer
returns-then-more-fewer g c =
    let n = g.row.CELLS in
    let game = g.T.PatternRules.game in
    let t = c.args.tier in
    let e = c.numbers_in-more.ensures in
    let past : n < more game t + fewer game t = omega (arith, e.more, e.fewer, c.from.ensures, c.if-more-fewer.true) in
    c.new.ensures ∙ sym (no_children n game t past)
