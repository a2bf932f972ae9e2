use Rattle.std.proofs.Common.{◌≡◌, false, map, take}
use Rattle.std.specs.List.{AllZip}
use Rattle.gm_command.specs.Lines.{word_of}
use Rattle.gm_command.specs.Parsers.{IsArgFor}
use Rattle.gm_command.proofs.commands.add_words.Given as goal

abbrev pub invariant-loop-word : goal.invariant-loop-word
invariant-loop-word l = l.explained ≡ false → AllZip IsArgFor (map word_of (take l.word-index l.words)) l.all.items
