use Rattle.gm_frontier.proofs.Lower.{◌≡◌, ℕ, ◌++◌, take, Contains, flat_map, IsChildPart, notes_of_tier, joined}
use Rattle.gm_frontier.proofs.part.push_children.Given as goal

abbrev pub invariant-loop-tier : goal.invariant-loop-tier
invariant-loop-tier g l = record {
  notes : joined l.parts.items ≡ joined l.fn.parts.items ++ flat_map (notes_of_tier l.tables l.place) (take l.tier-index l.tiers);
  whole : (tier : ℕ) → Contains (take l.tier-index l.tiers) tier → IsChildPart g.G.Game.rules l.place tier (notes_of_tier l.tables l.place tier);
}
