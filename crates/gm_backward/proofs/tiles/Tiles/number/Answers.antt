use Rattle.gm_backward.proofs.Lower.{place_of}
use Rattle.gm_backward.proofs.TilingLemmas.{number_all}
use Rattle.gm_backward.proofs.tiles.Tiles.number.Goals as goal

pub returns : goal.returns
returns g c =
    let s = c.args.self.now in
    number_all g.G.Game.rules (place_of s.shards.a) s.cuts s.cuts_are s.shards s.shards_are c.show_good.ensures s.none_are c.delivered.result c.delivered-2.result
    c.delivered-3.result c.delivered-4.result
    c.delivered.ensures.value c.delivered-2.ensures.value c.delivered-3.ensures.value c.delivered-4.ensures.value
