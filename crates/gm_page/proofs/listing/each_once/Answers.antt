use Rattle.gm_page.proofs.Reaching.{listing_known}
use Rattle.gm_page.proofs.listing.each_once.Goals as goal

pub returns-clause-once : goal.returns-clause-once
returns-clause-once g c = (listing_known g.G.Game.rules c.args.start c.args.limit c.args.list.now c.requires).kept.fresh

pub returns-clause-few : goal.returns-clause-few
returns-clause-few g c = (listing_known g.G.Game.rules c.args.start c.args.limit c.args.list.now c.requires).kept.few
