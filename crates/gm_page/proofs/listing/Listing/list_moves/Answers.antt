use Rattle.gm_page.proofs.Lower.{map, ap, drop_more, drop_all, result_of}
use Rattle.gm_page.proofs.Growing.{all_next, all_done}
use Rattle.gm_page.proofs.listing.Listing.list_moves.Goals as goal

pub loop-x-preserved : goal.loop-x-preserved
loop-x-preserved c =
    all_next c.args.limit _ _ _ c.loop-x.self c.list_new.new.self _ (ap (map result_of) (drop_more c.args.moves.now c.loop-x.x-index _ c.loop-x-test.true))
    c.loop-x.invariant c.in_ok-list_new.ensures

pub returns : goal.returns
returns c =
    all_done c.args.limit _ c.loop-x.self _ (ap (map result_of) (drop_all c.loop-x.x-index c.args.moves.now c.loop-x-test.false)) c.loop-x.invariant
