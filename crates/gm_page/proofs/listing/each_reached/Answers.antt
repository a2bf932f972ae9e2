use Rattle.gm_page.proofs.Reaching.{listing_known}
use Rattle.gm_page.proofs.listing.each_reached.Goals as goal

pub returns : goal.returns
returns g c =
    let kept = (listing_known g.G.Game.rules c.args.start c.args.limit c.args.list.now c.requires.listing).kept in
    record { first = kept.first c.requires.some; reached = kept.reached; earlier = kept.earlier }
