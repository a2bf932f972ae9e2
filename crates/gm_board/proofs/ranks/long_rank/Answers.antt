use Rattle.gm_board.proofs.Lower.{◌≡◌, ℕ, ◌+◌, ◌/◌, ◌%◌, ◌^◌, [], get_or, refl, ap, ◌∙◌, arith, count_ones, mask_rank, mask_rank_below}
use Rattle.gm_board.specs.laws.Binomials.{binomial_small}
use Rattle.gm_board.specs.declared.ranks.TheConstants.{UPPER}
use Rattle.gm_board.proofs.RankTables.{long_rank_is}
use Rattle.gm_board.proofs.ranks.long_rank.Goals as goal

pub overflow_add-result : goal.overflow_add-result
overflow_add-result c =
    let m = c.args.mask in
    let e : c.short_rank.result + c.from.result ≡ mask_rank m =
    ap (λ (b : ℕ). c.short_rank.result + b)
    (c.from.ensures ∙ ap (λ (k : ℕ). get_or (get_or UPPER k []) (m / 2 ^ 16) 0) c.members_of_16.ensures)
    ∙ long_rank_is m (m % 2 ^ 16) (m / 2 ^ 16) c.short_rank.result c.requires refl refl c.short_rank.ensures in
    omega (arith, e, mask_rank_below 25 m (omega arith) c.requires, binomial_small 25 (count_ones m) (omega arith))
