use Rattle.std.proofs.Common.{sym, ap, ◌∙◌}
use Rattle.gm_stacks.specs.Heights.{total}
use Rattle.gm_stacks.specs.laws.HeightRanks.{ranked}
use Rattle.gm_stacks.proofs.columns.Stacks.middle_pieces.Goals as goal

pub returns : goal.returns
returns c =
    let r = c.ranked.result.0 in
    sym (ranked r.rows r.columns r.pieces r.rank r.below).all ∙ ap total c.ranked.ensures.middle
