use Rattle.gm_analyse.proofs.Lower.{◌≤◌, sym, subst, Option, REMOTENESS, Solved, Among}
use Rattle.std.proofs.Common.{IfSome}
use Rattle.gm_analyse.specs.Totals.{IsRecordAmong}
use Rattle.gm_play.proofs.Small.{value_small}
use Rattle.gm_analyse.proofs.Reporting.{canonical_among, legal_among}
use Rattle.gm_analyse.proofs.numbers.record_among.Goals as goal

pub returns-in-Canonical-clause-among : goal.returns-in-Canonical-clause-among
returns-in-Canonical-clause-among g c =
    let r = g.G.Game.rules in
    subst (λ (a : Among). IsRecordAmong r a c.args.p c.record.result) (sym c.in-Canonical.is) (canonical_among r c.args.p c.record.result c.record.ensures)

pub returns-in-Legal-clause-among : goal.returns-in-Legal-clause-among
returns-in-Legal-clause-among g c =
    let r = g.G.Game.rules in
    let few = subst (λ (o : Option Solved). IfSome o (λ s. s.remoteness ≤ REMOTENESS)) (sym c.get.ensures.value)
    (value_small r c.args.tables.now c.args.p c.get.ensures.tables) in
    subst (λ (a : Among). IsRecordAmong r a c.args.p c.get.result) (sym c.in-Legal.is)
    (legal_among r c.args.tables.now c.args.p c.get.result c.get.ensures.held c.requires c.get.ensures.is_true few)
