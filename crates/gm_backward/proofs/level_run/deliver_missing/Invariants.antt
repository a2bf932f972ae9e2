use Rattle.gm_backward.proofs.Lower.{◌≡◌, ℕ, ◌<◌}
use Rattle.std.proofs.Common.{true, false, get_or}
use Rattle.gm_backward.proofs.level_run.deliver_missing.Given as goal

abbrev pub invariant-loop-piece : goal.invariant-loop-piece
invariant-loop-piece g l = ((p : ℕ) → p < l.piece → get_or l.pieced.whole p false ≡ true) × (l.share.parts ≡ l.fn.share.parts)
