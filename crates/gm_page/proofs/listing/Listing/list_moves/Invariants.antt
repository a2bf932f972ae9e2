use Rattle.gm_page.proofs.Lower.{◌≡◌, map, drop, with_all, result_of}
use Rattle.gm_page.proofs.listing.Listing.list_moves.Given as goal

abbrev pub invariant-loop-x : goal.invariant-loop-x
invariant-loop-x l = with_all l.limit l.self (map result_of (drop l.x-index l.moves)) ≡ with_all l.limit l.initial.self (map result_of l.moves)
