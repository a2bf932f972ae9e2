use Rattle.gamesman.proofs.Said.{part_put}
use Rattle.gamesman.specs.LineRuns.{bad_line}
use Rattle.gamesman.proofs.run.bad_line.Goals as goal

pub returns-clause-said : goal.returns-clause-said
returns-clause-said g c = part_put bad_line (g.E.Write.contents c.args.errors.now) (g.E.Write.contents c.put.new.output) c.put.result c.put.ensures.ok c.put.ensures.err
