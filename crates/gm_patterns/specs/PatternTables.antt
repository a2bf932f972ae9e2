-- What each game of patterns proves of its tables: a computation finds nothing wrong with them. A check that fails names what is wrong.
use Rattle.std.specs.Prelude.{◌≡◌, ℕ, ◌+◌, ◌-◌, ◌*◌, ◌/◌, ◌%◌, ◌^◌, Bool, true, false, not, ◌&&◌, ◌||◌, ◌==◌, min, max, nat_lt, nat_le, bit_and, List, [], ◌∷◌, ◌++◌, map, length, if◌then◌else◌, Option, None, Some}
use Rattle.std.specs.List.{filter, flat_map, list_all, list_any, range_with_len}
use Rattle.gm_game.specs.declared.limits.TheConstants.{NAME}
use Rattle.gm_game.specs.Texts.{is_padded_text}
use Rattle.gm_game.specs.Shown.{is_plain}
use Rattle.gm_board.specs.declared.cell.Cell.TheVariants.{Empty, Mine, Theirs}
use Rattle.gm_board.specs.inner.Groups.{is_group_table}
use Rattle.gm_board.specs.Permutations.{is_permutation_of, permute, same_list}
use Rattle.gm_board.specs.Masks.{has_cell}
use Rattle.gm_board.specs.Images.{image_mask}
use Rattle.gm_board.specs.Cells.{is_mine, is_theirs, number_of}
use Rattle.gm_board.specs.inner.Words.{just_one}
use Rattle.gm_draw.specs.Points.{is_name, are_apart}
use Rattle.gm_patterns.specs.Patterns.{lets, fits, both, without, image_pattern, same_pattern}
use Rattle.gm_patterns.specs.Steps.{cells_in, laid}
use Rattle.gm_patterns.specs.PatternGames.{PatternGame, tier_of, more, fewer, can_have, can_play, steps_of, legal, number_after, has_enough, tier_after, child_by, child_tiers, rank_of}
use Rattle.gm_patterns.specs.declared.pattern.Pattern.{Pattern}
use Rattle.gm_patterns.specs.declared.step.Step.{Step}

-- what fails a test
abbrev pub failing : {X : Type 0} → (X → Bool) → List X → List X
failing p xs = filter (λ x. not (p x)) xs

-- the steps that fail a test, which may look at all steps of their phase
abbrev pub wrong_steps : PatternGame → (List Step → Step → Bool) → List Step
wrong_steps g p = flat_map (λ steps. failing (p steps) steps) g.phases

-- ---- patterns
-- whether no board of n cells has the pattern, since it lets nothing lie on some cell
abbrev pub is_void : ℕ → Pattern → Bool
is_void n p = nat_lt 0 (bit_and (bit_and p.not_empty (bit_and p.not_mine p.not_theirs)) (2 ^ n - 1))

-- whether each board that has the first pattern has the second
abbrev pub pattern_implies : Pattern → Pattern → Bool
pattern_implies p q =
    bit_and q.not_empty p.not_empty == q.not_empty
    && (bit_and q.not_mine p.not_mine == q.not_mine && bit_and q.not_theirs p.not_theirs == q.not_theirs)

-- what a pattern says of other cells
abbrev pub outside : ℕ → Pattern → Pattern
outside cells p = record {
  not_empty = without p.not_empty cells;
  not_mine = without p.not_mine cells;
  not_theirs = without p.not_theirs cells;
}

-- ---- steps
-- whether a pattern lets just one thing lie on a cell
abbrev pub lets_one : Pattern → ℕ → Bool
lets_one p k = just_one (lets p k Empty) (lets p k Mine) (lets p k Theirs)

-- whether a pattern lets just one thing lie on each of these cells below n
abbrev pub is_exact : ℕ → ℕ → Pattern → Bool
is_exact n cells p = list_all (λ k. if has_cell cells k then lets_one p k else true) (range_with_len 0 n)

-- a step changes some of n cells, by patterns that say what lies on them before and after it, and it is named by two of n cells
abbrev pub is_step : ℕ → Step → Bool
is_step n s =
    nat_lt (cells_in s.after) (2 ^ n)
    && (is_exact n (cells_in s.after) s.before && (is_exact n (cells_in s.after) s.after && (nat_lt s.from n && nat_lt s.to n)))

-- whether two steps have different names, or are never possible both
abbrev pub steps_apart : ℕ → Step → Step → Bool
steps_apart n s t = if s.from == t.from && s.to == t.to then is_void n (both s.before t.before) else true

-- the steps whose names some later step has
abbrev pub named_again : ℕ → List Step → List Step
named_again n [] = []
named_again n (s ∷ ss) = if list_all (steps_apart n s) ss then named_again n ss else s ∷ named_again n ss

-- ---- legal boards
abbrev pub swap_pattern : Bool → Pattern → Pattern
swap_pattern true p = record { not_empty = p.not_empty; not_mine = p.not_theirs; not_theirs = p.not_mine }
swap_pattern false p = p

abbrev pub turn_pattern : Option (List ℕ) → Pattern → Pattern
turn_pattern None p = p
turn_pattern (Some t) p = image_pattern t p

-- a mask of cells as the board is turned for the other player
abbrev pub turn_mask : Option (List ℕ) → ℕ → ℕ
turn_mask None m = m
turn_mask (Some t) m = image_mask t m

-- the pattern that a board has after it has passed, where it had this pattern, and also before, where it has this pattern after
abbrev pub pass_pattern : PatternGame → Pattern → Pattern
pass_pattern g p = turn_pattern g.turn (swap_pattern g.swapped p)

-- whether each board that has the pattern can't be, or the game is over on it
abbrev pub is_ruled_out : PatternGame → Pattern → Bool
is_ruled_out g p = list_any (pattern_implies p) g.forbidden || (list_any (pattern_implies p) g.lost ||
    (list_any (pattern_implies p) g.won || list_any (pattern_implies p) g.tied))

-- whether a step leads to no board with a forbidden pattern, of which q is what the board before it passes has
abbrev pub avoids : ℕ → PatternGame → Step → Pattern → Bool
avoids n g s q =
    is_void n (both s.after q)
    || (is_void n (both s.before (outside (cells_in s.after) q)) || is_ruled_out g (both s.before (outside (cells_in s.after) q)))

abbrev pub keeps_legal : ℕ → PatternGame → Step → Bool
keeps_legal n g s = list_all (λ p. avoids n g s (pass_pattern g p)) g.forbidden

-- ---- numbers of pieces
-- whether the players can have these numbers of pieces when the board passes from the player who has moved to the other
abbrev pub can_pass : ℕ → PatternGame → ℕ → ℕ → Bool
can_pass n g own other = if g.swapped then can_have n g other own else can_have n g own other

-- whether a step leads from these numbers of pieces to numbers that the sides can have, in the same tier or in one of lower rank
abbrev pub lands : ℕ → PatternGame → ℕ → ℕ → Step → Bool
lands n g mine theirs s = if has_enough n s mine theirs
    then can_pass n g (number_after n s is_mine mine) (number_after n s is_theirs theirs)
    && (tier_after n g s mine theirs == tier_of g mine theirs || nat_lt (rank_of n g (tier_after n g s mine theirs)) (rank_of n g (tier_of g mine theirs)))
    else true

-- whether the number of the tier gives these numbers of pieces back
abbrev pub come_back : PatternGame → ℕ → ℕ → Bool
come_back g mine theirs = more g (tier_of g mine theirs) == max mine theirs && fewer g (tier_of g mine theirs) == min mine theirs

-- what holds of numbers of pieces that the sides can have, and of those with which the game goes on
abbrev pub are_numbered : ℕ → PatternGame → ℕ → ℕ → Bool
are_numbered n g mine theirs = if can_have n g mine theirs then come_back g mine theirs else true

abbrev pub are_right : ℕ → PatternGame → ℕ → ℕ → Bool
are_right n g mine theirs = if can_play n g mine theirs
    then list_all (lands n g mine theirs) (steps_of n g (tier_of g mine theirs)) && nat_le (length (child_tiers n g (tier_of g mine theirs))) 15
    else true

-- ---- symmetries
-- whether a pattern has an image in a list, under each symmetry
abbrev pub has_images : List (List ℕ) → List Pattern → Pattern → Bool
has_images symmetries ps p = list_all (λ g. list_any (same_pattern (image_pattern g p)) ps) symmetries

-- whether a step has an image among the steps, under each symmetry
abbrev pub is_image : List ℕ → Step → Step → Bool
is_image g s t = same_pattern (image_pattern g s.before) t.before && same_pattern (image_pattern g s.after) t.after

abbrev pub has_steps : List (List ℕ) → List Step → Step → Bool
has_steps symmetries steps s = list_all (λ g. list_any (is_image g s) steps) symmetries

-- a turn undoes itself, and may come before or after a symmetry
abbrev pub is_turn : ℕ → List (List ℕ) → Option (List ℕ) → Bool
is_turn n symmetries None = true
is_turn n symmetries (Some t) =
    is_permutation_of n t
    && (same_list (permute 0 t t) (range_with_len 0 n) && list_all (λ g. same_list (permute 0 t g) (permute 0 g t)) symmetries)

-- ---- names of cells
-- whether a name has 1 to 31 plain bytes without `-`
abbrev pub is_cell_name : List ℕ → Bool
is_cell_name text = is_name text && (nat_le (length text) 31 && list_all is_plain text)

-- ---- what is wrong
pub data Fault : Type 0 where
  -- there are more than 25 cells, or the name is not of 16 bytes in ASCII, padded with zeros
  TooManyCells : Fault
  WrongName : Fault
  -- there is no name for each cell, a name of a cell is not of 1 to 31 plain bytes without `-`, or a name occurs twice
  WrongNumberOfNames : Fault
  WrongCellName : List ℕ → Fault
  SameCellNames : Fault
  -- the board at the start is not legal
  IllegalStart : Fault
  -- a phase has more than 128 steps
  TooManySteps : ℕ → Fault
  -- a step changes other cells, or its patterns do not say what lies before and after it on the cells that it changes
  WrongStep : Step → Fault
  -- a later step has its name, and both may be possible
  SameName : Step → Fault
  -- a step may lead to a board that has a forbidden pattern
  LeadsOut : Step → Fault
  -- the number of the tier does not give these numbers of the mover's and of the opponent's pieces back
  WrongTier : ℕ → ℕ → Fault
  -- from these numbers of pieces a step leads to numbers that the sides can't have or to another tier of no lower rank, or steps lead to more than 15 other tiers
  WrongNumbers : ℕ → ℕ → Fault
  -- the symmetries are no group, or the turn of the board is not its own inverse or does not agree with a symmetry
  NoGroup : Fault
  WrongTurn : Fault
  -- a step or a pattern has an image, by a symmetry, that is not there
  NoImage : Step → Fault
  NoPatternImage : Pattern → Fault

-- a fault, if a test fails
abbrev pub unless : Bool → Fault → List Fault
unless b f = if b then [] else f ∷ []

-- the numbers of pieces that fail a test
abbrev pub wrong_numbers : ℕ → (ℕ → ℕ → Bool) → List ℕ
wrong_numbers n p = failing (λ k. p (k / 100) (k % 100)) (range_with_len 0 (100 * n + 1))

-- the tests of tables: the numbers of cells and of steps, and the name; the names of cells; the board at the start; what steps say; their names; that they lead to
-- no forbidden board; the numbers of tiers; the numbers of pieces; the symmetries and the turn of the board; the images of steps; those of patterns
pub data Test : Type 0 where
  Sizes : Test
  Cells : Test
  Start : Test
  Says : Test
  Names : Test
  Kept : Test
  Numbered : Test
  Numbers : Test
  Turns : Test
  Images : Test
  Ends : Test

-- what a test finds wrong with the tables of a game on n cells
unfoldable pub faults : Test → ℕ → PatternGame → List Fault
unfolding number_of image_mask fits laid can_have can_play steps_of rank_of legal has_enough tier_after child_by child_tiers
faults Sizes n g =
    unless (nat_le n 25) TooManyCells
    ++ unless (length g.name == NAME && is_padded_text g.name) WrongName
    ++ map (λ steps. TooManySteps (length steps)) (failing (λ steps. nat_le (length steps) 128) g.phases)
faults Cells n g =
    unless (length g.names == n) WrongNumberOfNames ++ map WrongCellName (failing is_cell_name g.names) ++ unless (are_apart g.names) SameCellNames
faults Start n g = unless (legal n g g.start) IllegalStart
faults Says n g = map WrongStep (wrong_steps g (λ steps s. is_step n s))
faults Names n g = map SameName (flat_map (named_again n) g.phases)
faults Kept n g = map LeadsOut (wrong_steps g (λ steps s. keeps_legal n g s))
faults Numbered n g = map (λ k. WrongTier (k / 100) (k % 100)) (wrong_numbers n (are_numbered n g))
faults Numbers n g = map (λ k. WrongNumbers (k / 100) (k % 100)) (wrong_numbers n (are_right n g))
faults Turns n g = unless (is_group_table n g.symmetries) NoGroup ++ unless (is_turn n g.symmetries g.turn) WrongTurn
faults Images n g = map NoImage (wrong_steps g (has_steps g.symmetries))
faults Ends n g = map NoPatternImage (flat_map (λ ps. failing (has_images g.symmetries ps) ps) (g.forbidden ∷ g.lost ∷ g.won ∷ g.tied ∷ []))

-- the tables of a game on n cells are right: no test finds a fault
pub record IsPatternGame (n : ℕ) (g : PatternGame) : Type 0 where
  pub sizes : faults Sizes n g ≡ []
  pub cells : faults Cells n g ≡ []
  pub start : faults Start n g ≡ []
  pub says : faults Says n g ≡ []
  pub names : faults Names n g ≡ []
  pub kept : faults Kept n g ≡ []
  pub numbered : faults Numbered n g ≡ []
  pub numbers : faults Numbers n g ≡ []
  pub turns : faults Turns n g ≡ []
  pub images : faults Images n g ≡ []
  pub ends : faults Ends n g ≡ []
