use Rattle.gm_backward.proofs.Lower.{place_of}
use Rattle.gm_backward.proofs.TilingLemmas.{ended_at}
use Rattle.gm_backward.proofs.tiles.Tiles.show_ended.Goals as goal

pub returns-clause-a : goal.returns-clause-a
returns-clause-a g c = (let s = c.args.self.now in
    ended_at g.G.Game.rules (place_of s.shards.a) s.cuts 0 s.shards.a s.shards_are.a c.args.last.now c.requires.last c.requires.ties)

pub returns-clause-b : goal.returns-clause-b
returns-clause-b g c = (let s = c.args.self.now in
    ended_at g.G.Game.rules (place_of s.shards.a) s.cuts 1 s.shards.b s.shards_are.b c.args.last.now c.requires.last c.requires.ties)

pub returns-clause-c : goal.returns-clause-c
returns-clause-c g c = (let s = c.args.self.now in
    ended_at g.G.Game.rules (place_of s.shards.a) s.cuts 2 s.shards.c s.shards_are.c c.args.last.now c.requires.last c.requires.ties)

pub returns-clause-d : goal.returns-clause-d
returns-clause-d g c = (let s = c.args.self.now in
    ended_at g.G.Game.rules (place_of s.shards.a) s.cuts 3 s.shards.d s.shards_are.d c.args.last.now c.requires.last c.requires.ties)
