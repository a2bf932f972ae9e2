use Rattle.gm_tactix.proofs.Lower.{◌≡◌, ◌-◌, ℕ, List, length, ap, ◌∙◌, arith}
use Rattle.gm_pieces.specs.Common.{length-range_with_len}
use Rattle.gm_tactix.proofs.tiers.child_tiers.Goals as goal

pub push-requires : goal.push-requires
push-requires c =
    let first = c.saturating_sub-first.result in
    let long : length c.loop-child.list.items ≡ c.loop-child.child - first =
    ap (λ (xs : List ℕ). length xs) c.loop-child.invariant ∙ length-range_with_len first (c.loop-child.child - first) in
    (omega arith, omega arith)
