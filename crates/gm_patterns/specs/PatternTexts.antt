-- The texts of positions and of moves of a game of patterns.
use Rattle.std.specs.Prelude.{ℕ, ◌==◌, List, [], ◌∷◌, ◌++◌, slice_index_or, if◌then◌else◌}
use Rattle.gm_game.specs.declared.position.Position.{Position}
use Rattle.gm_pieces.specs.SideTexts.{cells_text}
use Rattle.gm_patterns.specs.PatternGames.{PatternGame, step_at, board_at}
use Rattle.gm_patterns.specs.declared.step.Step.{Step}

-- the name of a step: the cells that name it with `-` between them, or the cell
abbrev pub name_of : List (List ℕ) → Step → List ℕ
name_of names s = if s.from == s.to then slice_index_or names s.from [] else slice_index_or names s.from [] ++ 45 ∷ slice_index_or names s.to []

-- the text of a tier's move with this number
unfoldable pub step_text : ℕ → PatternGame → ℕ → ℕ → List ℕ
step_text n g tier m = name_of g.names (step_at n g tier m)

-- the text of a position: its cells in order
abbrev pub pattern_text : ℕ → PatternGame → Position → List ℕ
pattern_text n g p = cells_text (board_at n g p.tier p.index)

-- the text of a position's move
abbrev pub pattern_move_text : ℕ → PatternGame → Position → ℕ → List ℕ
pattern_move_text n g p m = step_text n g p.tier m
