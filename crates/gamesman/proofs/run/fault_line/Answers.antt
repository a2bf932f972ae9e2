use Rattle.gamesman.specs.Reasons.{words_for}
use Rattle.gamesman.proofs.Said.{line_written}
use Rattle.gamesman.proofs.run.fault_line.Goals as goal

pub returns-in-Ok : goal.returns-in-Ok
returns-in-Ok c =
    line_written _ (λ s. s.bytes) (λ w bs v h. h) c.new-line.result c.writeln.new.self c.new-line.ensures (words_for c.args.fault.now) c.in-Ok.ensures.writes
