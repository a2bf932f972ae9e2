use Rattle.gamesman.proofs.Lower.{◌∙◌}
use Rattle.gamesman.specs.Reasons.{line_for}
use Rattle.gamesman.proofs.Said.{part_put, said_part}
use Rattle.gamesman.proofs.run.refused.Goals as goal

pub returns-in-Some-clause-said : goal.returns-in-Some-clause-said
returns-in-Some-clause-said g c =
    let before = g.E.Write.contents c.args.errors.now in
    let after = g.E.Write.contents c.put.new.output in
    said_part (line_for c.args.fault.now) c.in-Some.line.bytes c.as_bytes.result.now before after (c.as_bytes.ensures.value ∙ c.deref.ensures.0) c.in-Some.ensures
    (part_put c.as_bytes.result.now before after c.put.result c.put.ensures.ok c.put.ensures.err)
