use Rattle.gamesman.proofs.Lower.{sym, subst, GameSpec}
use Rattle.gm_command.specs.declared.names.GameName.{GameName}
use Rattle.gm_mutorere.specs.laws.RingPictured.{ring_is}
use Rattle.gamesman.specs.Games.{spec_of}
use Rattle.gamesman.specs.Listing.{AreTextsOf}
use Rattle.gamesman.proofs.listing.texts_for.Goals as goal

pub returns-in-MuTorere : goal.returns-in-MuTorere
returns-in-MuTorere c =
    subst (λ (x : GameName). AreTextsOf (spec_of x) c.texts_of-in-MuTorere.result) (sym c.in-MuTorere.is)
    (ring_is (λ (s : GameSpec). AreTextsOf s c.texts_of-in-MuTorere.result) c.texts_of-in-MuTorere.ensures)
