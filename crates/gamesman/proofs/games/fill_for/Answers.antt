use Rattle.gamesman.proofs.Lower.{GameSpec}
use Rattle.gm_mutorere.specs.laws.RingPictured.{ring_is}
use Rattle.gamesman.specs.Listed.{IsFilledBy}
use Rattle.gamesman.proofs.games.fill_for.Goals as goal

pub returns-in-MuTorere : goal.returns-in-MuTorere
returns-in-MuTorere g c =
    rw c.in-MuTorere.is
    (ring_is (λ (s : GameSpec). IsFilledBy s c.args.look c.args.k c.args.lines.now c.args.parts.now c.fill-in-MuTorere.new.parts c.fill-in-MuTorere.result)
    c.fill-in-MuTorere.ensures)
