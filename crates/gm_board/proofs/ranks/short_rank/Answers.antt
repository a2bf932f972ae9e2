use Rattle.gm_board.proofs.Lower.{ℕ, ◌+◌, ◌/◌, ◌%◌, ◌^◌, [], get_or, refl, ap, ap₂, ◌∙◌}
use Rattle.gm_board.specs.declared.ranks.TheConstants.{HIGH}
use Rattle.gm_board.proofs.RankTables.{short_rank_is}
use Rattle.gm_board.proofs.ranks.short_rank.Goals as goal

pub returns : goal.returns
returns c =
    ap₂ (λ (a b : ℕ). a + b) c.from.ensures
    (c.from-2.ensures ∙ ap (λ (k : ℕ). get_or (get_or HIGH k []) (c.args.mask / 2 ^ 8) 0) c.members_of_8.ensures)
    ∙ short_rank_is c.args.mask (c.args.mask % 256) (c.args.mask / 2 ^ 8) c.requires refl refl
