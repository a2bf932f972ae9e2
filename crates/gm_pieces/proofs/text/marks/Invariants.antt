use Rattle.gm_pieces.proofs.Lower.{◌<◌}
use Rattle.std.specs.Prelude.{◌^◌}
use Rattle.gm_board.specs.laws.Marks.{IsRead}
use Rattle.gm_pieces.proofs.text.marks.Given as goal

abbrev pub invariant-loop-cell : goal.invariant-loop-cell
invariant-loop-cell l = record { within : l.marks < 2 ^ l.cells; read : IsRead l.text l.byte l.cell l.marks }
