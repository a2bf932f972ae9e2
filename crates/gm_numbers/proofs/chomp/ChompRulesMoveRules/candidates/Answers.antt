use Rattle.gm_numbers.specs.laws.ChompLaws.{tried}
use Rattle.gm_numbers.proofs.chomp.ChompRulesMoveRules.candidates.Goals as goal

pub returns : goal.returns
returns c = rw c.one.ensures (tried c.args.board)
