use Rattle.gm_board.proofs.Lower.{◌≡◌, ℕ, ◌+◌, ◌^◌, ◌<◌, sym, ap, ◌∙◌, subst, arith, mask_rank, cells_of}
use Rattle.std.proofs.Common.{lt_trans, ◌*◌}
use Rattle.gm_board.specs.Arrangements.{arrangement_index, arrangements}
use Rattle.gm_board.specs.laws.Arrangements.{arrangements_fit}
use Rattle.gm_board.specs.Pieces.{mine_mask, their_mask}
use Rattle.gm_board.specs.laws.Pieces.{pieces_index_below, mine_again, theirs_again}
use Rattle.gm_board.proofs.IndexSteps.{index_is}
use Rattle.gm_board.proofs.arrangement.Arrangement.index.Goals.{After-rank_subset-2}
use Rattle.gm_board.proofs.arrangement.Arrangement.index.Goals as goal

value_is : (c : After-rank_subset-2) → c.rank_subset.result * c.ways.result + c.rank_subset-2.result ≡ arrangement_index
    (cells_of c.args.self.cells c.args.mine c.args.theirs)
value_is c =
    index_is c.args.self.cells c.args.self.mine c.args.self.theirs c.args.mine c.args.theirs _ _ _ c.args.self.within c.requires
    c.rank_subset.ensures.value
    c.ways.ensures.value
    (c.rank_subset-2.ensures.value ∙ ap mask_rank c.pack-packed.ensures)

pub overflow_add-result : goal.overflow_add-result
overflow_add-result c =
    let h : c.rank_subset.result * c.ways.result + c.rank_subset-2.result < 2 ^ 64 =
    subst (λ (i : ℕ). i < 2 ^ 64) (sym (value_is c))
    (lt_trans (pieces_index_below _ _ _ _ _ c.requires) (arrangements_fit c.args.self.cells c.args.self.mine c.args.self.theirs c.args.self.within)) in
    omega (arith, h)

pub returns-clause-below : goal.returns-clause-below
returns-clause-below c =
    subst (λ (i : ℕ). i < arrangements c.args.self.cells c.args.self.mine c.args.self.theirs) (sym (value_is c)) (pieces_index_below _ _ _ _ _ c.requires)

pub returns-clause-mine_back : goal.returns-clause-mine_back
returns-clause-mine_back c = ap (mine_mask c.args.self.cells c.args.self.mine c.args.self.theirs) (value_is c) ∙ mine_again _ _ _ _ _ c.requires

pub returns-clause-theirs_back : goal.returns-clause-theirs_back
returns-clause-theirs_back c = ap (their_mask c.args.self.cells c.args.self.mine c.args.self.theirs) (value_is c) ∙ theirs_again _ _ _ _ _ c.requires
