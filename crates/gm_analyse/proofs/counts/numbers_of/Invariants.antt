use Rattle.gm_analyse.proofs.Lower.{◌≡◌, ◌+◌, ◌≤◌, ℕ, vec_len, REMOTENESS, number_in}
use Rattle.std.proofs.Common.{slice_index_or}
use Rattle.gm_analyse.proofs.counts.numbers_of.Given as goal

abbrev pub invariant-loop-index : goal.invariant-loop-index
invariant-loop-index g l = (vec_len l.numbers ≤ REMOTENESS + 1) × ((n : ℕ) → slice_index_or l.numbers.items n 0 ≡ number_in l.table.records l.index l.value n)
