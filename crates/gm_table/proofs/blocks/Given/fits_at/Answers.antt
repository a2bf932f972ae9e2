use Rattle.gm_table.proofs.Lower.{◌↔◌, get_or, None, sym, subst, ◌∙◌, CacheData, at, RecordFits, slice_get-get_or}
use Rattle.std.proofs.Common.{IsTrue}
use Rattle.gm_table.proofs.CheckLemmas.{fits_at}
use Rattle.gm_table.proofs.LevelLemmas.{record_read}
use Rattle.gm_table.proofs.blocks.Given.fits_at.Goals as goal

pub returns-clause-value : goal.returns-clause-value
returns-clause-value g c =
    let self = c.args.self.now in
    let r = g.G.Game.rules in
    let records = g.C.Records.listed self.records.now in
    let p = at self.tier c.args.index in
    let same = c.record.ensures ∙ record_read records c.args.index c.requires.within in
    let fits = subst (λ (k : CacheData). IsTrue c.fits.result ↔ RecordFits r k.tables k.tier records p c.record.result) c.requires.cache c.fits.ensures.value in (
      λ t. fits_at r self.tables.now self.tier records c.args.index None c.requires.within
          (subst (RecordFits r self.tables.now self.tier records p) same (fits.0 t)),
      λ f. fits.1 (subst (RecordFits r self.tables.now self.tier records p) (sym same)
          (f (get_or records c.args.index None) (slice_get-get_or records c.args.index None c.requires.within))),
    )
