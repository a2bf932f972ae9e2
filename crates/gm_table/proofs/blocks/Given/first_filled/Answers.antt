use Rattle.gm_table.proofs.Lower.{◌<◌, length, None, sym, subst, ◌∙◌, arith, at, RecordFits}
use Rattle.gm_table.proofs.CheckLemmas.{fits_at, wrong_at, fit_more, hole_fits, hole_filled}
use Rattle.gm_table.proofs.LevelLemmas.{record_read}
use Rattle.gm_table.proofs.blocks.Given.first_filled.Goals as goal

pub returns-then-is_some : goal.returns-then-is_some
returns-then-is_some g c =
    let self = c.args.self.now in
    let r = g.G.Game.rules in
    let records = g.C.Records.listed self.records.now in
    let i = c.loop-index.index in
    let below = c.loop-index-test.true in
    let end = c.requires.within in
    let inside : i < length records = omega arith in
    let hole = c.requires.holes i c.loop-index.auto.index below in
    let same = c.record.ensures ∙ record_read records i inside in
    let filled = hole_filled r self.tables.now self.tier records i c.record.result hole (sym c.is_some.ensures ∙ c.if-is_some.true) in
    let wrong = wrong_at r self.tables.now self.tier records i None inside (λ h. filled
    (subst (RecordFits r self.tables.now self.tier records (at self.tier i)) (sym same) h)) in
    (c.loop-index.auto.index, below, wrong, c.loop-index.invariant)

pub loop-index-preserved : goal.loop-index-preserved
loop-index-preserved g c =
    let self = c.args.self.now in
    let r = g.G.Game.rules in
    let records = g.C.Records.listed self.records.now in
    let i = c.loop-index.index in
    let below = c.loop-index-test.true in
    let end = c.requires.within in
    let inside : i < length records = omega arith in
    let hole = c.requires.holes i c.loop-index.auto.index below in
    let same = c.record.ensures ∙ record_read records i inside in
    let fits = hole_fits r self.tables.now self.tier records i c.record.result hole (sym c.is_some.ensures ∙ c.if-is_some.false) in
    fit_more r self.tables.now self.tier records c.args.lo i c.loop-index.invariant
    (fits_at r self.tables.now self.tier records i None inside (subst (RecordFits r self.tables.now self.tier records (at self.tier i)) same fits))
