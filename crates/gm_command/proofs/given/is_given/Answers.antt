use Rattle.std.proofs.Common.{◌∙◌, ap, sym}
use Rattle.clap.specs.Words.{found_of}
use Rattle.gm_command.specs.Given.{is_of_line}
use Rattle.gm_command.proofs.Givens.{given_is}
use Rattle.gm_command.proofs.given.is_given.Goals as goal

pub returns-in-Some : goal.returns-in-Some
returns-in-Some c =
    c.is_of_line.ensures ∙ sym (ap is_of_line c.in-Some.is) ∙ given_is (found_of c.args.inner.now) c.args.name.now c.value_source.result c.value_source.ensures

pub returns-in-None : goal.returns-in-None
returns-in-None c = sym (ap is_of_line c.in-None.is) ∙ given_is (found_of c.args.inner.now) c.args.name.now c.value_source.result c.value_source.ensures
