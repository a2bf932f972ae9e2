use Rattle.gm_page.proofs.Lower.{◌-◌}
use Rattle.gm_page.proofs.Reaching.{IsGoneThrough}
use Rattle.gm_page.proofs.listing.listing_of.Given as goal

abbrev pub invariant-loop-next : goal.invariant-loop-next
invariant-loop-next g l = IsGoneThrough g.G.Game.rules l.start.position l.limit l.next l.list

abbrev pub decreases-loop-next : goal.decreases-loop-next
decreases-loop-next g l = l.limit - l.next
