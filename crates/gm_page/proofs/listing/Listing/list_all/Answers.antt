use Rattle.gm_page.proofs.Lower.{drop_more, drop_all, at}
use Rattle.gm_page.proofs.Growing.{all_next, all_done}
use Rattle.gm_page.proofs.listing.Listing.list_all.Goals as goal

pub loop-p-preserved : goal.loop-p-preserved
loop-p-preserved c =
    all_next c.args.limit _ _ _ c.loop-p.self c.list_new.new.self _ (drop_more c.args.these.now c.loop-p.p-index (at 0 0) c.loop-p-test.true)
    c.loop-p.invariant c.in_ok-list_new.ensures

pub returns : goal.returns
returns c = all_done c.args.limit _ c.loop-p.self _ (drop_all c.loop-p.p-index c.args.these.now c.loop-p-test.false) c.loop-p.invariant
