use Rattle.gm_pieces.specs.Common.{arith, sym, ◌∙◌}
use Rattle.gm_patterns.specs.laws.MaskFacts.{cells_few}
use Rattle.gm_patterns.specs.laws.TableFacts.{played_few}
use Rattle.gm_patterns.proofs.tiers.child_by.Goals as goal

pub tier_of-requires-clause-mine : goal.tier_of-requires-clause-mine
tier_of-requires-clause-mine g c =
    let game = g.T.PatternRules.game in
    let few = played_few g.row.CELLS game _ _ (sym c.can_play.ensures ∙ c.if-not-can_play.false) in
    let cells = cells_few g.row.CELLS game g.met.T.PatternRules.right.tables in
    omega (arith, few, cells)

pub tier_of-requires-clause-theirs : goal.tier_of-requires-clause-theirs
tier_of-requires-clause-theirs g c =
    let game = g.T.PatternRules.game in
    let few = played_few g.row.CELLS game _ _ (sym c.can_play.ensures ∙ c.if-not-can_play.false) in
    let cells = cells_few g.row.CELLS game g.met.T.PatternRules.right.tables in
    omega (arith, few, cells)
