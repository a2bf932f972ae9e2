use Rattle.std.proofs.Common.{◌≡◌, false, map, take}
use Rattle.std.specs.List.{AllZip}
use Rattle.gm_command.specs.Lines.{line_of_spec}
use Rattle.gm_command.specs.Parsers.{IsCommandFor}
use Rattle.gm_command.proofs.commands.add_commands.Given as goal

abbrev pub invariant-loop-line : goal.invariant-loop-line
invariant-loop-line l = l.explained ≡ false → AllZip IsCommandFor (map (λ line. line_of_spec line.now) (take l.line-index l.line-items)) l.all.items
