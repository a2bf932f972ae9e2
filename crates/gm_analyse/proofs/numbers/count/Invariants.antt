use Rattle.gm_analyse.proofs.Lower.{◌≡◌, ℕ, ◌+◌, ◌≤◌, vec_len}
use Rattle.std.proofs.Common.{◌-◌, max, slice_index_or}
use Rattle.gm_analyse.proofs.numbers.count.Given as goal

abbrev pub invariant-loop-numbers : goal.invariant-loop-numbers
invariant-loop-numbers l =
    (vec_len l.numbers ≤ max (vec_len l.initial.numbers) (l.level + 1)) × ((n : ℕ) → slice_index_or l.numbers.items n 0 ≡ slice_index_or
    l.initial.numbers.items n 0)

abbrev pub decreases-loop-numbers : goal.decreases-loop-numbers
decreases-loop-numbers l = l.level + 1 - vec_len l.numbers
