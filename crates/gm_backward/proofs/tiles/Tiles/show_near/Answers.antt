use Rattle.gm_backward.proofs.Lower.{place_of}
use Rattle.gm_backward.proofs.Far.{level_near}
use Rattle.gm_backward.proofs.TilingLemmas.{covered}
use Rattle.gm_backward.proofs.tiles.Tiles.show_near.Goals as goal

pub returns : goal.returns
returns g c =
    let r = g.G.Game.rules in
    let s = c.args.self.now in
    let good = c.show_good.ensures in
    level_near r g.met.G.Game.lawful c.args.tables.now c.has-held.ensures.tables (place_of s.shards.a)
    (covered r (place_of s.shards.a) s.cuts s.cuts_are s.shards s.shards_are good.a good.b good.c good.d) c.requires.held c.requires.left
