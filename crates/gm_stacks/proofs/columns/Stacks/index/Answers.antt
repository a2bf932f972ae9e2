use Rattle.std.proofs.Common.{◌*◌, ◌<◌, ◌^◌, ℕ, ap, ◌∙◌, refl, arith}
use Rattle.std.proofs.lemmas.Nat.{or_lt}
use Rattle.std.specs.Prelude.{bit_or}
use Rattle.gm_board.specs.Masks.{has_cell, mask_of, mask_rank}
use Rattle.gm_board.specs.Arrangements.{their_bits}
use Rattle.gm_board.specs.Pieces.{cells_of}
use Rattle.gm_stacks.proofs.NumberingSteps.{AreFree, free_apart, own_taken, count_few, index_is, rank_small, index_fits, own_small}
use Rattle.gm_stacks.proofs.columns.Stacks.index.Goals.{After-free, After-binomial}
use Rattle.gm_stacks.proofs.columns.Stacks.index.Goals as goal

free : (c : After-free) → AreFree (c.args.self.rows * c.args.self.columns) (bit_or c.args.mine c.args.theirs) c.free.result
free c = record {
  taken_within = or_lt (c.args.self.rows * c.args.self.columns) c.args.mine c.args.theirs c.requires.mine c.requires.theirs;
  within = c.free.ensures.within;
  cells = c.free.ensures.cells;
}

pub free-requires : goal.free-requires
free-requires c = or_lt (c.args.self.rows * c.args.self.columns) c.args.mine c.args.theirs c.requires.mine c.requires.theirs

pub pack-requires-clause-apart : goal.pack-requires-clause-apart
pack-requires-clause-apart c = free_apart (c.args.self.rows * c.args.self.columns) (bit_or c.args.mine c.args.theirs) c.free.result (free c) c.args.mine
    (own_taken (c.args.self.rows * c.args.self.columns) c.args.mine c.args.theirs c.free.result c.args.self.few c.requires.mine c.requires.theirs c.requires.apart (free c))

pub rank-requires : goal.rank-requires
rank-requires c = or_lt (c.args.self.rows * c.args.self.columns) c.args.mine c.args.theirs c.requires.mine c.requires.theirs

pub binomial-requires : goal.binomial-requires
binomial-requires c =
    let n = c.args.self.rows * c.args.self.columns in
    let l = count_few n (bit_or c.args.mine c.args.theirs) (or_lt n c.args.mine c.args.theirs c.requires.mine c.requires.theirs) in
    omega (arith, l)

product : (c : After-binomial) → c.rank.result * c.binomial.result < 2 ^ 63
product c =
    let a = rank_small c.args.self.columns c.args.self.rows c.args.self.middle (has_cell (bit_or c.args.mine c.args.theirs)) c.args.self.low c.args.self.narrow c.args.self.inside in
    index_fits c.rank.result c.binomial.result (let e = c.rank.ensures.value in omega (arith, a, e)) c.binomial.ensures.small

pub overflow_mul-result : goal.overflow_mul-result
overflow_mul-result c = let p = product c in omega (arith, p)

pub overflow_add-result : goal.overflow_add-result
overflow_add-result c =
    let p = product c in
    let o = own_small 32 _ c.rank_subset-own.result (omega arith) (c.rank_subset-own.ensures.below 32 (omega arith) (omega arith)) in
    omega (arith, p, o)

pub returns : goal.returns
returns c =
    let n = c.args.self.rows * c.args.self.columns in
    index_is n c.args.mine c.args.theirs c.free.result c.args.self.few c.requires.mine c.requires.theirs c.requires.apart
    (free ((goal.at.returns c).After-free)) c.args.self.columns c.args.self.rows c.args.self.middle _ _ _ refl c.rank.ensures.value c.binomial.ensures.value
    (c.rank_subset-own.ensures.value ∙ ap mask_rank (c.pack.ensures
    ∙ ap (λ (k : ℕ). mask_of (their_bits (cells_of k c.free.result c.args.mine))) c.cells.ensures))
