use Rattle.std.proofs.Common.{◌<◌, ◌^◌, ℕ, ap, ◌∙◌, sym, subst, w32}
use Rattle.std.specs.Int.{bit_not}
use Rattle.std.specs.Prelude.{bit_and, count_ones, ◌-◌}
use Rattle.gm_board.specs.Pieces.{spread_mask}
use Rattle.gm_stacks.proofs.NumberingSteps.{AreRanks, ranks, free_pieces, AreMasks, masks_are}
use Rattle.gm_stacks.proofs.columns.Stacks.masks.Goals.{After-binomial-ways, After-spread-mine}
use Rattle.gm_stacks.proofs.columns.Stacks.masks.Goals as goal

two : (c : After-binomial-ways) → AreRanks c.args.self.columns c.args.self.rows c.args.self.middle c.args.outer c.args.middle c.args.own c.args.index c.binomial-ways.result
two c = ranks _ _ _ _ _ _ _ _ c.requires.index c.binomial-ways.ensures.value

pub nonzero_div-index : goal.nonzero_div-index
nonzero_div-index c = (two c).some

pub filled-taken-requires-clause-rank : goal.filled-taken-requires-clause-rank
filled-taken-requires-clause-rank c = (two ((goal.at.filled-taken-requires-clause-rank c).After-binomial-ways)).high

pub nonzero_rem-index : goal.nonzero_rem-index
nonzero_rem-index c = (two ((goal.at.nonzero_rem-index c).After-binomial-ways)).some

pub unrank_subset-packed-requires-clause-below : goal.unrank_subset-packed-requires-clause-below
unrank_subset-packed-requires-clause-below c = (two ((goal.at.unrank_subset-packed-requires-clause-below c).After-binomial-ways)).low

pub spread-mine-requires-clause-packed : goal.spread-mine-requires-clause-packed
spread-mine-requires-clause-packed c =
    let all = free_pieces c.args.self.columns c.args.self.rows c.args.self.middle c.args.outer c.args.middle c.args.own c.args.index c.binomial-ways.result c.filled-taken.result c.free.result
    c.unrank_subset-packed.result c.args.self.few c.args.self.inside c.requires.index c.binomial-ways.ensures.value
    (record { taken_within = c.filled-taken.ensures.within; within = c.free.ensures.within; cells = c.free.ensures.cells })
    c.filled-taken.ensures.cells c.unrank_subset-packed.ensures.value in
    subst (λ (k : ℕ). c.unrank_subset-packed.result < 2 ^ k)
    (sym all ∙ ap (λ (k : ℕ). k - count_ones c.free.result) (sym c.cells.ensures)) c.unrank_subset-packed.ensures.within

masks : (c : After-spread-mine) → AreMasks c.args.self.columns c.args.self.rows c.args.self.middle c.args.outer c.args.middle c.args.own c.args.index c.spread-mine.result
    (bit_and c.filled-taken.result (bit_not w32 c.spread-mine.result))
masks c = masks_are _ _ _ _ _ _ _ c.binomial-ways.result c.filled-taken.result c.free.result c.unrank_subset-packed.result c.args.self.few c.args.self.inside c.requires.index
    c.binomial-ways.ensures.value
    (record { taken_within = c.filled-taken.ensures.within; within = c.free.ensures.within; cells = c.free.ensures.cells })
    c.filled-taken.ensures.cells c.unrank_subset-packed.ensures.value _
    (c.spread-mine.ensures ∙ ap (λ (k : ℕ). spread_mask k c.free.result c.unrank_subset-packed.result) c.cells.ensures)

pub returns-clause-mine : goal.returns-clause-mine
returns-clause-mine c = (masks c).mine_within

pub returns-clause-theirs : goal.returns-clause-theirs
returns-clause-theirs c = (masks c).theirs_within

pub returns-clause-apart : goal.returns-clause-apart
returns-clause-apart c = (masks c).apart

pub returns-clause-board : goal.returns-clause-board
returns-clause-board c = (masks c).board
