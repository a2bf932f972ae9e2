-- Patterns: what may lie on the cells of a board. Each of the three masks of a pattern has the cells on which one thing may not lie.
use Rattle.std.specs.Prelude.{ℕ, Bool, not, ◌&&◌, ◌==◌, bit_and, bit_or, bit_xor, List, length}
use Rattle.std.specs.List.{list_all, list_any, range_with_len}
use Rattle.gm_board.specs.declared.cell.Cell.{Cell}
use Rattle.gm_board.specs.declared.cell.Cell.TheVariants.{Empty, Mine, Theirs}
use Rattle.gm_board.specs.Cells.{cell_at}
use Rattle.gm_board.specs.Masks.{has_cell}
use Rattle.gm_board.specs.BoardMasks.{pattern_mask}
use Rattle.gm_board.specs.Images.{image_mask}
use Rattle.gm_patterns.specs.declared.pattern.Pattern.{Pattern}

-- whether a pattern lets this lie on a cell
abbrev pub lets : Pattern → ℕ → Cell → Bool
lets p k Empty = not (has_cell p.not_empty k)
lets p k Mine = not (has_cell p.not_mine k)
lets p k Theirs = not (has_cell p.not_theirs k)

-- whether a board has a pattern: the pattern lets lie on each cell what lies there
unfoldable pub fits : Pattern → List Cell → Bool
fits p b = list_all (λ k. lets p k (cell_at b k)) (range_with_len 0 (length b))

-- whether a board has one of the patterns
abbrev pub has_some : List Pattern → List Cell → Bool
has_some ps b = list_any (λ p. fits p b) ps

-- ---- patterns by lists of cells
abbrev pub empty_on : List ℕ → Pattern
empty_on ks = record { not_empty = 0; not_mine = pattern_mask ks; not_theirs = pattern_mask ks }

abbrev pub mine_on : List ℕ → Pattern
mine_on ks = record { not_empty = pattern_mask ks; not_mine = 0; not_theirs = pattern_mask ks }

abbrev pub theirs_on : List ℕ → Pattern
theirs_on ks = record { not_empty = pattern_mask ks; not_mine = pattern_mask ks; not_theirs = 0 }

-- a piece of either side
abbrev pub taken_on : List ℕ → Pattern
taken_on ks = record { not_empty = pattern_mask ks; not_mine = 0; not_theirs = 0 }

abbrev pub not_mine_on : List ℕ → Pattern
not_mine_on ks = record { not_empty = 0; not_mine = pattern_mask ks; not_theirs = 0 }

abbrev pub not_theirs_on : List ℕ → Pattern
not_theirs_on ks = record { not_empty = 0; not_mine = 0; not_theirs = pattern_mask ks }

-- what both patterns let
abbrev pub both : Pattern → Pattern → Pattern
both p q = record {
  not_empty = bit_or p.not_empty q.not_empty;
  not_mine = bit_or p.not_mine q.not_mine;
  not_theirs = bit_or p.not_theirs q.not_theirs;
}

-- the cells of the first mask that the second does not have
abbrev pub without : ℕ → ℕ → ℕ
without m cells = bit_xor m (bit_and m cells)

-- ---- images
-- the pattern that the image of a board has, where the board has this pattern
abbrev pub image_pattern : List ℕ → Pattern → Pattern
image_pattern g p = record {
  not_empty = image_mask g p.not_empty;
  not_mine = image_mask g p.not_mine;
  not_theirs = image_mask g p.not_theirs;
}

-- whether two patterns are the same
abbrev pub same_pattern : Pattern → Pattern → Bool
same_pattern p q = p.not_empty == q.not_empty && (p.not_mine == q.not_mine && p.not_theirs == q.not_theirs)
