use Rattle.gm_pieces.proofs.Lower.{sym, ap, ◌∙◌}
use Rattle.gm_pieces.proofs.rules.MoveRules.candidates.Goals as goal

pub returns : goal.returns
returns g c = rw (sym (c.move_number_bound.ensures ∙ ap g.Self.MoveRules.game.move_number_bound c.tier.ensures)) (c.below.ensures _)
