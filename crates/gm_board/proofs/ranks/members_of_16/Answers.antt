use Rattle.gm_board.proofs.Lower.{ℕ, ◌+◌, ◌/◌, ◌%◌, ◌^◌, refl, ap₂, ◌∙◌}
use Rattle.gm_board.proofs.RankTables.{ones_of_both}
use Rattle.gm_board.proofs.ranks.members_of_16.Goals as goal

pub returns : goal.returns
returns c =
    ap₂ (λ (a b : ℕ). a + b) c.members_of_8.ensures c.members_of_8-2.ensures
    ∙ ones_of_both c.args.mask (c.args.mask % 256) (c.args.mask / 2 ^ 8) c.requires refl refl
