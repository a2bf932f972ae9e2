use Rattle.gm_patterns.specs.laws.MaskFacts.{mine_within, theirs_within, laid_apart}
use Rattle.gm_patterns.proofs.step.laid.Goals as goal

pub invariant_of-result : goal.invariant_of-result
invariant_of-result g c =
    let n = g.row.CELLS in
    let b = c.args.board in
    let k = c.args.cells in
    let p = c.args.pattern in
    record {
      few = b.few;
      mine_within = rw (c.without.ensures, c.without-2.ensures) (mine_within n b.mine b.theirs k p b.mine_within b.theirs_within c.requires);
      theirs_within = rw (c.without-3.ensures, c.without-4.ensures) (theirs_within n b.mine b.theirs k p b.mine_within b.theirs_within c.requires);
      apart = rw (c.without.ensures, c.without-2.ensures, c.without-3.ensures, c.without-4.ensures)
          (laid_apart n b.mine b.theirs k p b.mine_within b.theirs_within c.requires b.apart);
    }
