use Rattle.std.proofs.Common.{◌∙◌, ap, true}
use Rattle.std.proofs.lemmas.Result.{IfOk-weaker}
use Rattle.clap.specs.Words.{App}
use Rattle.clap.specs.Simple.{app_of_fields}
use Rattle.gm_command.proofs.Added.{program_told}
use Rattle.gm_command.proofs.commands.gamesman.Goals as goal

pub returns : goal.returns
returns c =
    let about = ap app_of_fields c.after_help.ensures ∙ ap app_of_fields c.about.ensures ∙ c.new.ensures.app in
    let version = ap app_of_fields c.version.ensures ∙ ap (λ (a : App). record a { top = record a.top { has_version = true } }) about in
    let required = ap app_of_fields c.subcommand_required.ensures ∙ ap (λ (a : App). record a { top = record a.top { subcommand_required = true } }) version in
    IfOk-weaker c.subcommands.result _ _
    (λ new added off. program_told c.subcommand_required.result new c.add_commands.new.all.items required added (c.in_ok-add_commands.ensures off)) c.subcommands.ensures
