use Rattle.gm_find.proofs.Onlies.{no_win}
use Rattle.gm_find.proofs.only_line.is_only_line.Goals as goal

pub returns-in-Lose : goal.returns-in-Lose
returns-in-Lose g c =
    (λ t. absurd (cc), λ (n, w, x). absurd (no_win g.G.Game.rules c.args.known.now.position c.args.solved c.requires c.in-Lose.is n w))
