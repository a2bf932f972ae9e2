use Rattle.gm_backward.proofs.Lower.{place_of}
use Rattle.gm_backward.proofs.TilingLemmas.{four_parts}
use Rattle.gm_backward.proofs.tiles.records_of.Goals as goal

pub returns : goal.returns
returns g c =
    let s = c.args.tiles.now in
    four_parts g.G.Game.rules (place_of s.shards.a) s.cuts s.cuts_are s.shards s.shards_are c.in_ok-records.records c.finish.new.records c.finish-2.new.records
    c.finish-3.new.records c.finish-4.new.records c.in_ok-records.ensures
    c.in_ok-finish.ensures.ok c.in_ok-finish-2.ensures.ok c.in_ok-finish-3.ensures.ok c.in_ok-finish-4.ensures.ok
