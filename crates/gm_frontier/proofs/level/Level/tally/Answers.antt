use Rattle.gm_frontier.proofs.Lower.{◌≡◌, ap, sym, subst, ◌∙◌, rules, length, Place, piece_of, TallyData, AreCounts}
use Rattle.gm_frontier.proofs.TileLemmas.{parents_in_tiles, pairs_fit, tally_right}
use Rattle.gm_frontier.proofs.level.Level.tally.Goals as goal

pub tile_counts-requires-clause-tiles : goal.tile_counts-requires-clause-tiles
tile_counts-requires-clause-tiles g c =
    parents_in_tiles g.G.Game.rules g.met.G.Game.lawful c.args.self.now c.place.ensures.level c.place.ensures.small c.args.piece c.args.n c.args.width
    c.tier_size-size.result c.div_ceil.result c.requires.width
    (c.tier_size-size.ensures ∙ ap (λ (p : Place). g.G.Game.rules.tier_size p.tier) c.place.ensures.value) c.div_ceil.ensures
    c.pairs-pairs.result c.pairs-pairs.ensures.value

pub tile_counts-requires-clause-few : goal.tile_counts-requires-clause-few
tile_counts-requires-clause-few g c =
    pairs_fit g.G.Game.rules g.met.G.Game.lawful c.args.self.now c.place.ensures.level c.place.ensures.small c.args.piece c.args.n c.args.width
    c.tier_size-size.result c.div_ceil.result c.requires.width
    (c.tier_size-size.ensures ∙ ap (λ (p : Place). g.G.Game.rules.tier_size p.tier) c.place.ensures.value) c.div_ceil.ensures
    c.pairs-pairs.result c.pairs-pairs.ensures.value

pub of-requires-clause-exact : goal.of-requires-clause-exact
of-requires-clause-exact g c =
    let whole : length c.in_ok-counts.counts.items ≡ c.div_ceil.result = search rules in
    tally_right g.G.Game.rules g.met.G.Game.lawful c.args.self.now c.place.ensures.level c.place.ensures.small c.args.piece c.args.n c.args.width
    c.tier_size-size.result c.div_ceil.result c.requires.width
    (c.tier_size-size.ensures ∙ ap (λ (p : Place). g.G.Game.rules.tier_size p.tier) c.place.ensures.value) c.div_ceil.ensures
    c.pairs-pairs.result c.pairs-pairs.ensures.value
    c.in_ok-counts.counts.items whole c.in_ok-counts.ensures.counts

pub returns : goal.returns
returns g c =
    let whole : length c.in_ok-counts.counts.items ≡ c.div_ceil.result = search rules in
    let e = c.of.ensures in
    record {
      place = ap (λ (t : TallyData). t.place) e;
      piece = ap (λ (t : TallyData). t.piece) e;
      n = ap (λ (t : TallyData). t.n) e;
      width = ap (λ (t : TallyData). t.width) e;
      counts = subst (AreCounts g.G.Game.rules c.args.self.now.place.tier c.args.width (piece_of c.args.piece c.args.n c.args.self.now.notes))
          (ap (λ (t : TallyData). t.counts) (sym e))
          (tally_right g.G.Game.rules g.met.G.Game.lawful c.args.self.now c.place.ensures.level c.place.ensures.small c.args.piece c.args.n c.args.width
          c.tier_size-size.result c.div_ceil.result c.requires.width
          (c.tier_size-size.ensures ∙ ap (λ (p : Place). g.G.Game.rules.tier_size p.tier) c.place.ensures.value) c.div_ceil.ensures
          c.pairs-pairs.result c.pairs-pairs.ensures.value
          c.in_ok-counts.counts.items whole c.in_ok-counts.ensures.counts);
    }
