use Rattle.std.proofs.Common.{map}
use Rattle.clap.specs.Words.{app_of}
use Rattle.gm_command.proofs.Answers.{answered}
use Rattle.gm_command.proofs.reading.matched.Goals as goal

pub returns : goal.returns
returns c = λ off.
    answered (map (λ t. t.now) c.args.words.now) (app_of c.in_ok-gamesman.field-0) c.try_get_matches_from.result (c.in_ok-gamesman.ensures off)
    c.try_get_matches_from.ensures.matches c.try_get_matches_from.ensures.kinds
