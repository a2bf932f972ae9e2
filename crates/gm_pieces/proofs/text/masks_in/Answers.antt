use Rattle.gm_pieces.proofs.Lower.{arith}
use Rattle.gm_board.specs.laws.Marks.{read_apart}
use Rattle.gm_pieces.proofs.text.masks_in.Goals as goal

pub returns-clause-apart : goal.returns-clause-apart
returns-clause-apart c = read_apart c.args.text.now 120 111 c.args.cells c.marks.result c.marks-2.result (λ e. omega arith) c.marks.ensures.value
    c.marks-2.ensures.value
