-- Steps: a board that has the pattern before a step gets what the pattern after it says, and is as it was elsewhere.
use Rattle.std.specs.Prelude.{ℕ, Bool, not, bit_or, List, [], ◌∷◌, map, length, if◌then◌else◌}
use Rattle.std.specs.List.{filter, flat_map, range_with_len}
use Rattle.gm_board.specs.declared.cell.Cell.{Cell}
use Rattle.gm_board.specs.declared.cell.Cell.TheVariants.{Empty, Mine, Theirs}
use Rattle.gm_board.specs.Cells.{cell_at}
use Rattle.gm_board.specs.Masks.{has_cell}
use Rattle.gm_patterns.specs.Patterns.{empty_on, mine_on, theirs_on, taken_on, both}
use Rattle.gm_patterns.specs.declared.pattern.Pattern.{Pattern}
use Rattle.gm_patterns.specs.declared.step.Step.{Step}

-- the cells of which a pattern says something
abbrev pub cells_in : Pattern → ℕ
cells_in p = bit_or p.not_empty (bit_or p.not_mine p.not_theirs)

-- what lies on a cell on which a pattern lets only one thing lie
abbrev pub only : Pattern → ℕ → Cell
only p k = if not (has_cell p.not_mine k) then Mine else (if not (has_cell p.not_theirs k) then Theirs else Empty)

-- a board with a pattern laid on these cells
unfoldable pub laid : ℕ → Pattern → List Cell → List Cell
laid cells p b = map (λ k. if has_cell cells k then only p k else cell_at b k) (range_with_len 0 (length b))

-- the board after a step, before it passes to the other player
abbrev pub stepped : Step → List Cell → List Cell
stepped s b = laid (cells_in s.after) s.after b

-- the board before a step
abbrev pub taken_back : Step → List Cell → List Cell
taken_back s d = laid (cells_in s.after) s.before d

-- ---- usual steps, each named by two cells, or by one if they are the same
-- a piece is placed on an empty cell
abbrev pub place : ℕ → Step
place k = record { from = k; to = k; before = empty_on (k ∷ []); after = mine_on (k ∷ []) }

-- a piece is placed on an empty cell that has one below it
abbrev pub stack : ℕ → ℕ → Step
stack k below = record { from = k; to = k; before = both (empty_on (k ∷ [])) (taken_on (below ∷ [])); after = mine_on (k ∷ []) }

-- a piece that covers two empty cells is placed
abbrev pub cover : ℕ → ℕ → Step
cover a c = record { from = a; to = c; before = empty_on (a ∷ c ∷ []); after = mine_on (a ∷ c ∷ []) }

-- the pieces on a cell, or on two, are taken
abbrev pub take : ℕ → ℕ → Step
take a c = record { from = a; to = c; before = mine_on (a ∷ c ∷ []); after = empty_on (a ∷ c ∷ []) }

-- a piece goes to an empty cell
abbrev pub slide : ℕ → ℕ → Step
slide a c = record {
  from = a;
  to = c;
  before = both (mine_on (a ∷ [])) (empty_on (c ∷ []));
  after = both (empty_on (a ∷ [])) (mine_on (c ∷ []));
}

-- the same from each of n cells to each to which it is joined
abbrev pub slides : ℕ → (ℕ → ℕ → Bool) → List Step
slides n joined = flat_map (λ a. map (slide a) (filter (joined a) (range_with_len 0 n))) (range_with_len 0 n)

-- a piece goes to a cell of an opponent's piece, which it takes
abbrev pub capture : ℕ → ℕ → Step
capture a c = record {
  from = a;
  to = c;
  before = both (mine_on (a ∷ [])) (theirs_on (c ∷ []));
  after = both (empty_on (a ∷ [])) (mine_on (c ∷ []));
}

-- a piece jumps over an opponent's piece, which it takes, to an empty cell
abbrev pub jump : ℕ → ℕ → ℕ → Step
jump a m c = record {
  from = a;
  to = c;
  before = both (mine_on (a ∷ [])) (both (theirs_on (m ∷ [])) (empty_on (c ∷ [])));
  after = both (empty_on (a ∷ m ∷ [])) (mine_on (c ∷ []));
}

-- a step that needs a further pattern on the board before it
abbrev pub step_if : Pattern → Step → Step
step_if p s = record s { before = both p s.before }

-- a piece goes over an opponent's piece, which stays, to an empty cell
abbrev pub hop : ℕ → ℕ → ℕ → Step
hop a m c = step_if (theirs_on (m ∷ [])) (slide a c)

-- a piece goes over one of its own side to a cell of an opponent's piece, which it takes
abbrev pub vault : ℕ → ℕ → ℕ → Step
vault a m c = step_if (mine_on (m ∷ [])) (capture a c)
