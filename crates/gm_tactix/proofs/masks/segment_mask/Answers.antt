use Rattle.gm_tactix.proofs.Lower.{arith}
use Rattle.gm_tactix.proofs.MaskTable.{mask_fits}
use Rattle.gm_tactix.proofs.masks.segment_mask.Goals as goal

pub returns-clause-within : goal.returns-clause-within
returns-clause-within c = mask_fits c.args.side c.args.number c.requires.low c.requires.high (omega arith)
