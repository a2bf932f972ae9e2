use Rattle.gm_page.proofs.Lower.{◌≡◌, drop, with_all}
use Rattle.gm_page.proofs.listing.Listing.list_all.Given as goal

abbrev pub invariant-loop-p : goal.invariant-loop-p
invariant-loop-p l = with_all l.limit l.self (drop l.p-index l.these) ≡ with_all l.limit l.initial.self l.these
