use Rattle.gm_locks.proofs.Lower.{false, get_or, ap, ◌∙◌, PiecedData}
use Rattle.gm_locks.proofs.PieceLemmas.{pieces_whole}
use Rattle.gm_locks.proofs.piece.Pieced.into_whole.Goals as goal

pub returns-clause-whole : goal.returns-clause-whole
returns-clause-whole g c = pieces_whole g.met.G.Game.lawful c.self.invariant c.range-good.ensures.good
    (λ p few. ap (λ (e : PiecedData). get_or e.whole p false) c.self.view_is ∙ c.requires.whole p few)
