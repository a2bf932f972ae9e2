use Rattle.gamesman.proofs.Lower.{Some, ap, sym, rules, ◌∙◌}
use denote.Enum.Bare.{same_true, same_false}
use Rattle.gm_command.specs.declared.names.GameName.{GameName}
use Rattle.gm_command.specs.contracts.names.GameName.{the_type}
use Rattle.gamesman.proofs.Sheeted.{some_inj}
use Rattle.gamesman.proofs.list.is_at.Goals as goal

pub returns-clause-same : goal.returns-clause-same
returns-clause-same c is = c.game_at.ensures ∙ ap (λ (g : GameName). Some g) (same_true the_type (search rules) _ _ (sym c.eq.ensures ∙ is))

pub returns-clause-other : goal.returns-clause-other
returns-clause-other c is there = same_false the_type _ _ (sym c.eq.ensures ∙ is) (some_inj (sym c.game_at.ensures ∙ there))
