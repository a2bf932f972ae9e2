use Rattle.gm_game.proofs.Lower.{◌≡◌, ◌-◌, map, take, is_some, List, Option, list_all, Solved, evaluated, lost_in, tied_in, least_of, all_won}
use Rattle.gm_game.proofs.ahead.+look_ahead.Given as goal

abbrev pub decreases-look_ahead : goal.decreases-look_ahead
decreases-look_ahead g l = l.n

abbrev pub invariant-loop-m : goal.invariant-loop-m
invariant-loop-m g l =
    let r = g.G.Game.rules in
    let os : List (Option Solved) = map (evaluated r (l.n - 1)) (map (r.play l.p) (take l.m-index l.m-items)) in
    record {
      lost_so_far : l.lost ≡ least_of lost_in os;
      won_so_far : l.won ≡ all_won os;
      known_so_far : l.known ≡ list_all is_some os;
      tied_so_far : l.tied ≡ least_of tied_in os;
      all_moves : l.m-items ≡ r.moves l.p;
    }
