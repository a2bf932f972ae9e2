use Rattle.std.proofs.Common.{◌≡◌, ◌∙◌, ◌<◌, ◌+◌, sym, ap, subst, arith, List, length, map, take}
use Rattle.std.proofs.lemmas.List.{length-map}
use Rattle.std.specs.List.{AllZip}
use Rattle.clap.specs.declared.builder.command.Command.{Command}
use Rattle.gm_command.specs.Lines.{line_of_spec, command_lines}
use Rattle.gm_command.specs.Parsers.{IsCommandFor}
use Rattle.gm_command.proofs.Zips.{zip_more}
use Rattle.gm_command.proofs.commands.add_commands.Goals as goal

pub loop-line-preserved : goal.loop-line-preserved
unfolding command_lines
loop-line-preserved c = λ off.
    let lines = c.lines-lines.result in
    let i = c.loop-line.line-index in
    let long : length lines ≡ 20 = sym (length-map lines (λ line. line_of_spec line.now)) ∙ ap length c.lines-lines.ensures in
    let inside : i < length lines = omega (arith, long, c.loop-line-test.true) in
    let here = c.in_ok-command_of.ensures off in
    subst (λ (all : List Command). AllZip IsCommandFor (map (λ line. line_of_spec line.now) (take (i + 1) lines)) all) (sym c.in_ok-push.ensures.items)
    (zip_more IsCommandFor (λ line. line_of_spec line.now) lines i _ c.loop-line.all.items c.in_ok-command_of.field-0 inside (c.loop-line.invariant off) here)
