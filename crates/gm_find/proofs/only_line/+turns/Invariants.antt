use Rattle.gm_find.proofs.Lower.{ℕ, ◌+◌, ◌-◌, take, Contains, IsOnlyAfter}
use Rattle.gm_find.specs.Finding.{IsOnlyDefence}
use Rattle.std.proofs.Common.{◌*◌}
use Rattle.gm_find.proofs.only_line.+turns.Given as goal

abbrev pub decreases-is_only_win : goal.decreases-is_only_win
decreases-is_only_win g l = 4 * l.remoteness

abbrev pub decreases-is_only_after : goal.decreases-is_only_after
decreases-is_only_after g l = 4 * l.remoteness - 1

abbrev pub decreases-are_only_defences : goal.decreases-are_only_defences
decreases-are_only_defences g l = 4 * l.remoteness + 2

abbrev pub decreases-is_only_defence : goal.decreases-is_only_defence
decreases-is_only_defence g l = 4 * l.remoteness + 1

abbrev pub invariant-is_only_win-loop-m : goal.invariant-is_only_win-loop-m
invariant-is_only_win-loop-m g l = (m : ℕ) → Contains (take l.m-index l.m-items) m → IsOnlyAfter g.G.Game.rules l.distinct l.fastest l.remoteness l.known.position m

abbrev pub invariant-are_only_defences-loop-e : goal.invariant-are_only_defences-loop-e
invariant-are_only_defences-loop-e g l =
    (e : ℕ) → Contains (take l.e-index l.e-items) e → IsOnlyDefence g.G.Game.rules l.distinct l.fastest l.remoteness l.known.position e
