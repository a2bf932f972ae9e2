use Rattle.std.proofs.Common.{◌≡◌, ℕ, rules, sym, subst, IfOk}
use Rattle.gm_frontier.specs.inner.Tallies.{IsTallyTile, AreTallies}
use Rattle.tests_build.proofs.solver.levels.add_level.Goals as goal

pub add_counted-requires-clause-tallies : goal.add_counted-requires-clause-tallies
add_counted-requires-clause-tallies g c =
    let r = g.G.Game.rules in
    let level = c.args.level.now in
    let width = c.args.width in
    let size : r.tier_size level.place.tier ≡ r.tier_size 0 = search rules in
    let from : c.args.tallied.now.lo ≡ c.args.tile.0 = search rules in
    let to : c.args.tallied.now.hi ≡ c.args.tile.1 = search rules in
    let tile : IsTallyTile (r.tier_size level.place.tier) width c.args.tallied.now.lo c.args.tallied.now.hi = rw (size, from, to) c.requires.tile in
    let all = subst (λ found. IfOk found (λ tallies. (lo hi : ℕ) → IsTallyTile (r.tier_size level.place.tier) width lo hi → AreTallies r level lo hi
    tallies.items)) c.must-tallies.ensures c.tallies.ensures.tiles in
    subst (AreTallies r level c.args.tallied.now.lo c.args.tallied.now.hi) (sym c.as_slice.ensures.value) (all c.args.tallied.now.lo c.args.tallied.now.hi tile)
