use Rattle.gm_frontier.proofs.Lower.{◌≡◌, ℕ, ◌<◌, ◌+◌, ◌/◌, get_or, Contains, NoteData, tile_count}
use Rattle.std.proofs.Common.{vec_len}
use Rattle.gm_frontier.proofs.tally.tile_counts.Given as goal

abbrev pub invariant-loop-parent : goal.invariant-loop-parent
invariant-loop-parent g l = record {
  same : vec_len l.counts ≡ l.tiles;
  within : (pair : NoteData × ℕ) → Contains l.parent-iterator pair → pair.1 / l.width < l.tiles;
  counted : (k : ℕ) → k < l.tiles → get_or l.counts.items k 0 + tile_count l.width k l.parent-iterator ≡ tile_count l.width k l.fn.pairs;
}
