use Rattle.std.proofs.Common.{◌<◌, length, [], refl, arith}
use Rattle.gm_stacks.specs.declared.counts.TheConstants.{FEWER}
use Rattle.gm_stacks.proofs.FewerRows.{table_is}
use Rattle.gm_stacks.proofs.counts.fewer.Goals as goal

pub returns-clause-value : goal.returns-clause-value
returns-clause-value c =
    let below : c.args.height < length FEWER = omega arith in
    table_is FEWER refl c.args.height c.args.columns [] [] below (omega arith) c.args.pieces (omega arith)
