use Rattle.std.proofs.Common.{◌∙◌, ap}
use Rattle.std.specs.Prelude.{option_and_then}
use Rattle.gm_command.specs.Reading.{written}
use Rattle.gm_command.proofs.Figures.{written_read}
use Rattle.gm_command.proofs.game_commands.written.Goals as goal

pub returns : goal.returns
returns c =
    written_read c.as_bytes.result.now c.read_decimal.result c.read_decimal.ensures ∙ ap written c.as_bytes.ensures.value
    ∙ ap (option_and_then written) c.in_ok-text_in.ensures
