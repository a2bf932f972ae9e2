use Rattle.std.proofs.Common.{rules}
use Rattle.gm_backward.proofs.Lower.{place_of}
use Rattle.gm_backward.proofs.RoundLemmas.{turned_none}
use Rattle.gm_backward.proofs.tiles.Tiles.next_phase.Goals as goal

pub invariant_of-self : goal.invariant_of-self
invariant_of-self g c =
    let r = g.G.Game.rules in
    let s = c.args.self.now in
    let place = place_of s.shards.a in
    let good = c.show_good.ensures in
    record {
      cuts_are = search rules;
      shards_are = search rules;
      near = search rules;
      none_are = record {
        a = turned_none r s.shards.a c.next_phase.new.self place s.cuts 0 c.next_phase.ensures good.a s.shards_are.a c.requires.phase;
        b = turned_none r s.shards.b c.next_phase-2.new.self place s.cuts 1 c.next_phase-2.ensures good.b s.shards_are.b c.requires.phase;
        c = turned_none r s.shards.c c.next_phase-3.new.self place s.cuts 2 c.next_phase-3.ensures good.c s.shards_are.c c.requires.phase;
        d = turned_none r s.shards.d c.next_phase-4.new.self place s.cuts 3 c.next_phase-4.ensures good.d s.shards_are.d c.requires.phase;
      };
    }
