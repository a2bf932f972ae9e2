use Rattle.gm_analyse.proofs.Lower.{is_some}
use Rattle.gm_analyse.proofs.Listed.{all_with, all_without, all_ok}
use Rattle.gm_analyse.proofs.numbers.add_position.Goals as goal

pub returns-in-Some-clause-numbers : goal.returns-in-Some-clause-numbers
returns-in-Some-clause-numbers g c =
    all_ok c.add.result _ _ _ _ (λ here elsewhere others seen h. all_with g.G.Game.rules c.args.among (is_some c.args.reached) seen c.args.p
    c.in-Some.solved c.args.numbers.now c.add.new.self c.in-Some.ensures.0 here elsewhere others h) c.add.ensures.here c.add.ensures.elsewhere
    c.add.ensures.others

pub returns-in-None-clause-numbers : goal.returns-in-None-clause-numbers
returns-in-None-clause-numbers g c seen h =
    all_without g.G.Game.rules c.args.among (is_some c.args.reached) seen c.args.p c.args.numbers.now c.in-None.ensures h
