use Rattle.std.specs.Io.Iter.{bytes_remaining}
use Rattle.gamesman.proofs.Lower.{game_spec, IsTextFor}
use Rattle.gamesman.proofs.Filtering.{Amid}
use Rattle.gamesman.proofs.filter.answer_lines.Given as goal

abbrev pub invariant-loop-byte : goal.invariant-loop-byte
invariant-loop-byte g l =
    Amid (IsTextFor (game_spec g.G.Game.rules g.G.Shown.shown g.G.Shown.move_shown g.G.Pictured.picture) l.question) l.number
    l.line.items (g.I.Read.remaining l.fn.reader) (bytes_remaining g.I.Read.remaining l.byte-iterator) (g.O.Write.contents l.fn.output) (g.O.Write.contents l.output)
