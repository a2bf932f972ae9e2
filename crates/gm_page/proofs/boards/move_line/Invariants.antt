use Rattle.gm_page.proofs.Lower.{◌≡◌, ℕ, ◌≤◌, ◌+◌, ◌++◌, length, take, codes, flat_map}
use Rattle.std.proofs.Common.{◌*◌}
use Rattle.gm_page.proofs.boards.move_line.Given as goal

abbrev pub invariant-loop-m : goal.invariant-loop-m
invariant-loop-m g l = record {
  listed : l.m-items ≡ g.G.Game.rules.moves l.initial.p;
  so_far : l.line.items ≡ codes "moves:" ++ flat_map (λ (m : ℕ). codes " " ++ g.G.Shown.move_shown l.initial.p m) (take l.m-index l.m-items);
  few : length l.line.items ≤ 6 + 65 * l.m-index;
}
