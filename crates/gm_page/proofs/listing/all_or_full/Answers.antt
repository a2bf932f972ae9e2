use Rattle.gm_page.proofs.Reaching.{listing_whole, listing_full}
use Rattle.gm_page.proofs.listing.all_or_full.Goals as goal

pub returns-clause-whole : goal.returns-clause-whole
returns-clause-whole g c = listing_whole g.G.Game.rules c.args.start c.args.limit c.requires.some c.args.list.now c.requires.listing

pub returns-clause-full : goal.returns-clause-full
returns-clause-full g c = listing_full g.G.Game.rules c.args.start c.args.limit c.args.list.now c.requires.listing
