use Rattle.gm_frontier.proofs.CoverLemmas.{covered}
use Rattle.gm_frontier.proofs.level.Level.pieces.Goals as goal

pub returns-clause-once : goal.returns-clause-once
returns-clause-once g c =
    λ width wide. covered g.G.Game.rules g.met.G.Game.lawful c.args.self.now.place c.args.self.now.notes c.place-place.ensures.level c.args.n
    width c.requires wide
