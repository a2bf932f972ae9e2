use Rattle.std.proofs.Common.{◌≡◌, ℕ, refl, sym, subst, rules, arith}
use Rattle.gm_table.specs.Tables.{IsHeld}
use Rattle.gm_toys.specs.Countdown.{countdown}
use Rattle.gm_play.proofs.Held.{all_held}
use Rattle.tests_layers.proofs.rules.lines.all_held.Goals as goal

pub returns : goal.returns
returns g c = all_held (countdown 10) c.args.tables.now (λ (t : ℕ). t ≡ 0) (λ t child is has. absurd (let (i, within, same) = has in omega (arith, within)))
    (λ t is. subst (IsHeld c.args.tables.now) (sym is) (search rules)) 0 refl
