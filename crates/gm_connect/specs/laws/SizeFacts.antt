-- What computing shows of each size.
use Rattle.std.specs.Prelude.{◌≡◌, ◌+◌, ◌&&◌}
use Rattle.gm_pieces.specs.Common.{ℕ, Bool, true, List, replicate, length, get_or, refl, eqb, leb, ltb, Empty, number_of, list_all, range_with_len, IsPaddedText, cond, keeps_patterns}
use Rattle.gm_board.specs.Binomials.{binomial}
use Rattle.gm_board.specs.inner.Groups.{is_group_table}
use Rattle.gm_stacks.specs.Heights.{stackings, rank_heights, middle_heights, outer_heights, rank_split}
use Rattle.gm_stacks.specs.Stacks.{heights, stacked_index}
use Rattle.gm_connect.specs.declared.size.Size.{Size}
use Rattle.gm_connect.specs.declared.size.Size.TheVariants.{FourByFour, FiveByFour, FourByFive, FourBySix, FiveByFive, SixByFour}
use Rattle.gm_connect.specs.ConnectFour.{has_line, all_stand, legal, mirrors, middle_pieces, tier_of, index_of}
use Rattle.gm_connect.specs.Lines.{lines}
use Rattle.gm_connect.specs.Sizes.{name_of, columns, rows, middle, cells, middle_cells, outer_cells}

-- whether a symmetry brings the cell below a cell to the cell below
abbrev pub keeps_below : Size → List ℕ → Bool
keeps_below s g = list_all (λ k. cond (ltb (k + columns s) (cells s)) (eqb (get_or g (k + columns s) 0) (get_or g k 0 + columns s))
    (leb (cells s) (get_or g k 0 + columns s))) (range_with_len 0 (cells s))

-- each size is right: the empty board is legal, and the symmetries are a group that keeps the lines and what is below
pub record IsRight (s : Size) : Type 0 where
  pub name_length : length (name_of s) ≡ 16
  pub name_text : IsPaddedText (name_of s)
  pub low : leb (rows s) 6 ≡ true
  pub narrow : (leb 1 (columns s) && leb (columns s) 6) ≡ true
  pub wide : leb (columns s) (cells s) ≡ true
  pub few : leb (cells s) 25 ≡ true
  pub inside : leb (middle s) (columns s) ≡ true
  pub parts : outer_cells s + middle_cells s ≡ cells s
  pub start : legal s (replicate (cells s) Empty) ≡ true
  pub start_tier : tier_of s (replicate (cells s) Empty) ≡ 0
  pub start_index : index_of s (replicate (cells s) Empty) ≡ 0
  pub group : is_group_table (cells s) (mirrors s) ≡ true
  pub lines_kept : keeps_patterns (cells s) (mirrors s) (lines s) ≡ true
  pub below_kept : list_all (keeps_below s) (mirrors s) ≡ true

pub right : (s : Size) → IsRight s
unfolding name_of columns rows middle lines mirrors legal all_stand has_line number_of middle_pieces stacked_index heights middle_heights outer_heights rank_split rank_heights stackings binomial
right FourByFour = record { name_length = refl; name_text = refl; low = refl; narrow = refl; wide = refl; few = refl; inside = refl; parts = refl; start = refl; start_tier = refl; start_index = refl; group = refl; lines_kept = refl; below_kept = refl }
right FiveByFour = record { name_length = refl; name_text = refl; low = refl; narrow = refl; wide = refl; few = refl; inside = refl; parts = refl; start = refl; start_tier = refl; start_index = refl; group = refl; lines_kept = refl; below_kept = refl }
right FourByFive = record { name_length = refl; name_text = refl; low = refl; narrow = refl; wide = refl; few = refl; inside = refl; parts = refl; start = refl; start_tier = refl; start_index = refl; group = refl; lines_kept = refl; below_kept = refl }
right FourBySix = record { name_length = refl; name_text = refl; low = refl; narrow = refl; wide = refl; few = refl; inside = refl; parts = refl; start = refl; start_tier = refl; start_index = refl; group = refl; lines_kept = refl; below_kept = refl }
right FiveByFive = record { name_length = refl; name_text = refl; low = refl; narrow = refl; wide = refl; few = refl; inside = refl; parts = refl; start = refl; start_tier = refl; start_index = refl; group = refl; lines_kept = refl; below_kept = refl }
right SixByFour = record { name_length = refl; name_text = refl; low = refl; narrow = refl; wide = refl; few = refl; inside = refl; parts = refl; start = refl; start_tier = refl; start_index = refl; group = refl; lines_kept = refl; below_kept = refl }
