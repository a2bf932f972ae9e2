use Rattle.gm_patterns.specs.laws.MaskFacts.{turn_within, apart_turned}
use Rattle.gm_patterns.proofs.boards.turned.Goals as goal

pub invariant_of-result : goal.invariant_of-result
invariant_of-result g c =
    let n = g.row.CELLS in
    let game = g.T.PatternRules.game in
    let tables = g.met.T.PatternRules.right.tables in
    let b = c.args.board in
    record {
      few = b.few;
      mine_within = rw c.turned.ensures (turn_within n game tables b.mine b.mine_within);
      theirs_within = rw c.turned-2.ensures (turn_within n game tables b.theirs b.theirs_within);
      apart = rw (c.turned.ensures, c.turned-2.ensures) (apart_turned game.turn b.mine b.theirs b.apart);
    }
