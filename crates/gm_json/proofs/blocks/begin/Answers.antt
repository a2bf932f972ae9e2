use Rattle.gm_json.proofs.Lower.{◌≡◌, length, arith, rules}
use Rattle.gm_json.proofs.Stopping.{none_of_block}
use Rattle.gm_json.proofs.blocks.begin.Goals as goal

pub returns-in-Ok-clause-unread : goal.returns-in-Ok-clause-unread
returns-in-Ok-clause-unread c =
    let feed = c.args.feed.now in
    let none : length feed.block.items ≡ 0 = search rules in
    let inside = feed.inside in
    none_of_block feed.from feed.to c.in-Ok.block.items feed.block.items (omega (arith, none, inside))
