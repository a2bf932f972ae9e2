use Rattle.gm_frontier.proofs.Lower.{◌∙◌, ap, pairs_of_note}
use Rattle.gm_frontier.proofs.RowLemmas.{row_taken}
use Rattle.gm_frontier.proofs.pairs.PairsIterator.next.Goals as goal

pub loop-pair-preserved : goal.loop-pair-preserved
loop-pair-preserved g c =
    let s = c.loop-pair.self-inside in
    record {
      fits = c.loop-pair.invariant.fits;
      same = row_taken g.G.Game.rules s.level.now.place.tier s.lo s.hi s.from s.to s.level.now.notes c.note-note.result s.row c.take_up.new.self
          c.if-self.false c.loop-pair.invariant.fits c.note-note.ensures c.in_default.ensures.0
          (c.take_up.ensures ∙ ap (λ tier. pairs_of_note g.G.Game.rules tier s.lo s.hi c.note-note.result) c.tier.ensures.value)
          ∙ c.loop-pair.invariant.same;
    }
