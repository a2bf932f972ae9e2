use Rattle.gm_play.proofs.Lower.{HasLost, IsLinePlayed, PlayLine}
use Rattle.gm_play.specs.Lines.{LeadsTo, WinsWithin}
use Rattle.gm_play.proofs.Promise.{played_every, played_won, played_even}
use Rattle.gm_play.proofs.Playing.{if_some}
use Rattle.gm_play.proofs.play_line.play_line.Goals as goal

pub returns-clause-every : goal.returns-clause-every
returns-clause-every g c moves line =
    let r = g.G.Game.rules in
    let a = c.args in
    if_some c.walk.result _ (IsLinePlayed r a.start a.first a.replies.now) (LeadsTo r a.start a.first moves) c.walk.ensures
    (λ e p. played_every r g.met.G.Game.lawful a.start a.first a.replies.now moves e c.requires.legal p line)

pub returns-clause-won : goal.returns-clause-won
returns-clause-won g c n w =
    let r = g.G.Game.rules in
    let a = c.args in
    if_some c.walk.result _ (IsLinePlayed r a.start a.first a.replies.now) (WinsWithin r n) c.walk.ensures
    (λ e p. played_won r g.met.G.Game.lawful a.start a.first a.replies.now e n c.requires.legal p w)

pub returns-clause-even : goal.returns-clause-even
returns-clause-even g c w =
    let r = g.G.Game.rules in
    let a = c.args in
    if_some c.walk.result _ (IsLinePlayed r a.start a.first a.replies.now) (λ (end : PlayLine). HasLost r end.position end.side → ⊥) c.walk.ensures
    (λ e p. played_even r g.met.G.Game.lawful a.start a.first a.replies.now e c.requires.legal p w)
