use Rattle.gm_backward.proofs.Lower.{◌≤◌, sym, subst, TIER_SIZE, Place, AreHeld}
use Rattle.gm_frontier.specs.Levels.{AreTiles}
use Rattle.gm_backward.proofs.levels.next_level.Goals as goal

pub gather-requires-clause-tiles : goal.gather-requires-clause-tiles
gather-requires-clause-tiles g c = subst (λ (p : Place). AreTiles p 0 (g.G.Game.rules.tier_size p.tier) c.args.runs.now) (sym c.place.ensures)
    c.requires.runs

pub gather-requires-clause-held : goal.gather-requires-clause-held
gather-requires-clause-held g c = subst (λ (p : Place). AreHeld g.G.Game.rules c.args.tables.now p.tier) (sym c.place.ensures) c.requires.held

pub gather-requires-clause-small : goal.gather-requires-clause-small
gather-requires-clause-small g c = subst (λ (p : Place). g.G.Game.rules.tier_size p.tier ≤ TIER_SIZE) (sym c.place.ensures) c.args.tiles.now.cuts_are.within
