use Rattle.std.proofs.Common.{◌≡◌, ℕ, List, length, ap, ◌∙◌, arith}
use Rattle.gm_pieces.specs.Common.{length-range_with_len}
use Rattle.gm_numbers.proofs.chomp.shorter.Goals as goal

pub push-requires : goal.push-requires
push-requires c =
    let long : length c.loop-less.list.items ≡ c.loop-less.less = ap (λ (xs : List ℕ). length xs) c.loop-less.invariant ∙ length-range_with_len 0 c.loop-less.less in
    (omega arith, omega arith)
