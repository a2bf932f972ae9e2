use Rattle.std.proofs.Common.{arith}
use Rattle.gm_numbers.specs.laws.ChompLaws.{tier_small, index_small}
use Rattle.gm_numbers.proofs.chomp.ChompRulesMoveRules.board.Goals as goal

pub overflow_mul-result : goal.overflow_mul-result
overflow_mul-result c = let t = tier_small c.args.tier c.args.index c.requires in omega (arith, t)

pub overflow_add-result : goal.overflow_add-result
overflow_add-result c =
    let t = tier_small c.args.tier c.args.index c.requires in
    let i = index_small c.args.tier c.args.index c.requires in
    omega (arith, t, i)
