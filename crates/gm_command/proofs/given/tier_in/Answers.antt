use Rattle.std.proofs.Common.{◌∙◌, ◌^◌, ap}
use Rattle.std.specs.Prelude.{option_and_then}
use Rattle.std.specs.Str.Parse.{ParsesUnsigned, ExplainsUnsignedError, HasUnsignedDigitsIfOk}
use Rattle.clap.specs.Words.{found_of}
use Rattle.clap.proofs.WalkLemmas.{one_text-rows}
use Rattle.gm_command.specs.Given.{number_below}
use Rattle.gm_command.proofs.Givens.{number_read}
use Rattle.gm_command.proofs.given.tier_in.Goals as goal

pub returns : goal.returns
returns c =
    number_read _ (λ bs r. ParsesUnsigned 64 10 bs r × ExplainsUnsignedError 10 bs r × HasUnsignedDigitsIfOk bs r) 64 _ c.get_one.result
    c.get_one.ensures.none c.get_one.ensures.value (λ t x g. g.0)
    ∙ ap (option_and_then (number_below (2 ^ 64))) (one_text-rows (found_of c.args.inner.now) c.args.name.now)
