use Rattle.gm_board.proofs.Lower.{◌≡◌, ℕ, ◌%◌, ap, ap₂, ◌∙◌, mask_unrank, cells_of}
use Rattle.gm_board.specs.Arrangements.{arrangement_index}
use Rattle.gm_board.specs.Pieces.{mine_mask, their_mask}
use Rattle.gm_board.specs.laws.Pieces.{arrangement_pieces, index_of_masks}
use Rattle.gm_board.proofs.IndexSteps.{AreDigits, digits_are, mine_mask_is, their_mask_is}
use Rattle.gm_board.proofs.arrangement.Arrangement.masks.Goals.{After-ways-ways, After-spread-theirs}
use Rattle.gm_board.proofs.arrangement.Arrangement.masks.Goals as goal

digits : (c : After-ways-ways) → AreDigits c.args.self.cells c.args.self.mine c.args.self.theirs c.args.index c.ways-ways.result
digits c = digits_are _ _ _ _ _ c.requires c.ways-ways.ensures.value

pub nonzero_div-index : goal.nonzero_div-index
nonzero_div-index c = (digits c).ways

pub nonzero_rem-index : goal.nonzero_rem-index
nonzero_rem-index c = (digits ((goal.at.nonzero_rem-index c).After-ways-ways)).ways

pub unrank_subset-packed-requires-clause-below : goal.unrank_subset-packed-requires-clause-below
unrank_subset-packed-requires-clause-below c = rw (c.free-free.ensures, ← c.ways-ways.ensures.value)
    (digits ((goal.at.unrank_subset-packed-requires-clause-below c).After-ways-ways)).their_rank

mine_is : (c : After-spread-theirs) → c.unrank_subset-mine.result ≡ mine_mask c.args.self.cells c.args.self.mine c.args.self.theirs c.args.index
mine_is c = mine_mask_is c.args.self.cells c.args.self.mine c.args.self.theirs c.args.index c.ways-ways.result _ c.ways-ways.ensures.value
    c.unrank_subset-mine.ensures.value

theirs_is : (c : After-spread-theirs) → c.spread-theirs.result ≡ their_mask c.args.self.cells c.args.self.mine c.args.self.theirs c.args.index
theirs_is c =
    their_mask_is c.args.self.cells c.args.self.mine c.args.self.theirs c.args.index c.ways-ways.result _ c.unrank_subset-packed.result _
    c.ways-ways.ensures.value (digits_are _ _ _ _ _ c.requires c.ways-ways.ensures.value).mine_rank
    c.unrank_subset-mine.ensures.value
    (c.unrank_subset-packed.ensures.value ∙ ap (λ (n : ℕ). mask_unrank n c.args.self.theirs (c.args.index % c.ways-ways.result)) c.free-free.ensures)
    c.spread-theirs.ensures

pub returns-clause-pieces : goal.returns-clause-pieces
returns-clause-pieces c =
    rw (mine_is c, theirs_is c) (arrangement_pieces c.args.self.cells c.args.self.mine c.args.self.theirs c.args.index c.requires)

pub returns-clause-back : goal.returns-clause-back
returns-clause-back c =
    ap₂ (λ (x y : ℕ). arrangement_index (cells_of c.args.self.cells x y)) (mine_is c) (theirs_is c)
    ∙ index_of_masks c.args.self.cells c.args.self.mine c.args.self.theirs c.args.index c.requires
