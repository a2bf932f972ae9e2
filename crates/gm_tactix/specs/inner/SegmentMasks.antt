-- The masks of segments.
use Rattle.std.specs.Prelude.{ℕ, if◌then◌else◌}
use Rattle.gm_board.specs.BoardMasks.{pattern_mask}
use Rattle.gm_tactix.specs.Segments.{segment_cells, is_segment}

-- the mask of the cells of the segment with this number; 0 if the square of side s has no such segment
unfoldable pub segment_mask : ℕ → ℕ → ℕ
segment_mask s m = if is_segment s m then pattern_mask (segment_cells s m) else 0
