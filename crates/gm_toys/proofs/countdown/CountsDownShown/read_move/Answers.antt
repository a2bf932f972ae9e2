use Rattle.gm_toys.proofs.Lower.{◌≡◌, ◌↔◌, ℕ, Some, decimal}
use Rattle.std.proofs.Common.{subst}
use Rattle.std.specs.List.{Contains}
use Rattle.gm_toys.specs.Subtraction.{moves_down}
use Rattle.gm_toys.proofs.countdown.CountsDownShown.read_move.Goals as goal

pub returns : goal.returns
returns g c m =
    subst (λ (k : ℕ). (c.read_step.result ≡ Some m) ↔ (Contains (moves_down k c.args.p.index) m × (decimal m ≡ c.args.text.now))) c.most.ensures.value
    (c.read_step.ensures m)
