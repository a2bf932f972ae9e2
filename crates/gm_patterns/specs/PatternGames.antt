-- Games of patterns: the steps, the ends and the boards that can't be are tables of patterns. A board is a list of n cells as the player to move sees them.
use Rattle.std.specs.Prelude.{ℕ, ◌+◌, ◌-◌, ◌*◌, ◌/◌, ◌%◌, min, max, Bool, true, false, not, ◌&&◌, ◌||◌, ◌==◌, nat_le, nat_lt, List, [], ◌∷◌, ◌++◌, map, length, replicate, slice_index_or, if◌then◌else◌, Option, None, Some}
use Rattle.std.specs.Option.{is_none}
use Rattle.std.specs.List.{filter_map, range_with_len}
use Rattle.gm_game.specs.Ascending.{put_all}
use Rattle.gm_board.specs.declared.cell.Cell.{Cell}
use Rattle.gm_board.specs.declared.cell.Cell.TheVariants.{Empty}
use Rattle.gm_board.specs.BoardMasks.{turned}
use Rattle.gm_board.specs.Cells.{is_mine, is_theirs, number_of}
use Rattle.gm_board.specs.Permutations.{permute}
use Rattle.gm_board.specs.Arrangements.{arrangements}
use Rattle.gm_pieces.specs.Sides.{board_index, board_numbered}
use Rattle.gm_game.specs.declared.position.End.{End}
use Rattle.gm_game.specs.declared.position.End.TheVariants.{Lose, Tie, Win}
use Rattle.gm_game.specs.Rules.{Rules}
use Rattle.gm_pieces.specs.MoveGames.{MoveGame, move_rules}
use Rattle.gm_patterns.specs.Patterns.{fits, has_some}
use Rattle.gm_patterns.specs.Steps.{stepped, taken_back, place}
use Rattle.gm_patterns.specs.declared.pattern.Pattern.{Pattern}
use Rattle.gm_patterns.specs.declared.rules.Tiers.{Tiers}
use Rattle.gm_patterns.specs.declared.rules.Tiers.TheVariants.{Sides, Placed, Common, Single}
use Rattle.gm_patterns.specs.declared.step.Step.{Step}

-- what each such game states
pub record PatternGame : Type 0 where
  -- the name, padded with zeros, and the board at the start
  pub name : List ℕ
  pub start : List Cell
  -- the names of the cells
  pub names : List (List ℕ)
  -- whether the mover and the opponent can have these numbers of pieces, and how they end the game, if they do
  pub numbers : ℕ → ℕ → Bool
  pub over : ℕ → ℕ → Option End
  -- how the numbers of pieces give the number of a tier
  pub tiers : Tiers
  -- whether a step that changes the number of pieces adds some, else it takes some
  pub adds : Bool
  -- the steps of each phase, of which the number of pieces tells which it is; the number of a move is the place of its step
  pub phase : ℕ → ℕ
  pub phases : List (List Step)
  -- what the other player sees: whether the mover's pieces as the opponent's, and if the board is turned, for each cell the cell whose piece comes there
  pub swapped : Bool
  pub turn : Option (List ℕ)
  -- patterns that no board has
  pub forbidden : List Pattern
  -- the ends if the numbers of pieces do not end the game: the mover has lost on a board that has one of the patterns `lost`, else has won on one that has one of
  -- `won`, else ties on one that has one of `tied`
  pub lost : List Pattern
  pub won : List Pattern
  pub tied : List Pattern
  -- how the game ends for a player who can't move
  pub stuck : End
  -- the symmetries: for each cell, the cell whose piece comes there
  pub symmetries : List (List ℕ)

-- what is usual on n cells: the sides place pieces by turns, no pattern ends the game, and a player who can't move has lost. A game says what it has otherwise
abbrev pub usual : ℕ → PatternGame
usual n = record {
  name = [];
  start = replicate n Empty;
  names = [];
  numbers = λ mine theirs. mine == theirs || mine + 1 == theirs;
  over = λ mine theirs. None;
  tiers = Placed;
  adds = true;
  phase = λ pieces. 0;
  phases = map place (range_with_len 0 n) ∷ [];
  swapped = true;
  turn = None;
  forbidden = [];
  lost = [];
  won = [];
  tied = [];
  stuck = Lose;
  symmetries = [];
}

-- how numbers of pieces end a game that ends where the mover has fewer pieces than some number, if there is one
abbrev pub over_below : Option (ℕ × End) → ℕ → ℕ → Option End
over_below None mine theirs = None
over_below (Some e) mine theirs = if nat_lt mine e.0 then Some e.1 else None

-- ---- tiers
-- the number of the tier of the boards on which one side has so many pieces and the other so many
abbrev pub tier_by : Tiers → ℕ → ℕ → ℕ
tier_by Sides m t = 100 * max m t + min m t
tier_by Placed m t = m + t
tier_by Common m t = m + t
tier_by (Single k) m t = 0

-- how many pieces the side with more of them has in a tier, and how many the other side; where there is only tier 0, the side with more of them has fewer in any
-- other, which has no board
abbrev pub more_by : Tiers → ℕ → ℕ
more_by Sides tier = tier / 100
more_by Placed tier = tier - tier / 2
more_by Common tier = tier
more_by (Single k) tier = k

abbrev pub fewer_by : Tiers → ℕ → ℕ
fewer_by Sides tier = tier % 100
fewer_by Placed tier = tier / 2
fewer_by Common tier = 0
fewer_by (Single k) tier = if tier == 0 then k else k + 1

-- the same in a game
abbrev pub tier_of : PatternGame → ℕ → ℕ → ℕ
tier_of g = tier_by g.tiers

abbrev pub more : PatternGame → ℕ → ℕ
more g = more_by g.tiers

abbrev pub fewer : PatternGame → ℕ → ℕ
fewer g = fewer_by g.tiers

-- whether the mover and the opponent can have these numbers of pieces on n cells
unfoldable pub can_have : ℕ → PatternGame → ℕ → ℕ → Bool
can_have n g mine theirs = nat_le (mine + theirs) n && g.numbers mine theirs

-- and whether the game goes on with them
unfoldable pub can_play : ℕ → PatternGame → ℕ → ℕ → Bool
can_play n g mine theirs = can_have n g mine theirs && is_none (g.over mine theirs)

-- the steps of a tier
unfoldable pub steps_of : ℕ → PatternGame → ℕ → List Step
steps_of n g tier = if nat_le (more g tier + fewer g tier) n then slice_index_or g.phases (g.phase (more g tier + fewer g tier)) [] else []

-- a number that is less for each child tier: how many cells are left, or how many pieces
unfoldable pub rank_of : ℕ → PatternGame → ℕ → ℕ
rank_of n g tier = if g.adds then n - (more g tier + fewer g tier) else more g tier + fewer g tier

-- a step that changes nothing
abbrev pub no_step : Step
no_step = record {
  from = 0;
  to = 0;
  before = record { not_empty = 0; not_mine = 0; not_theirs = 0 };
  after = record { not_empty = 0; not_mine = 0; not_theirs = 0 };
}

-- the step of a tier with this number
unfoldable pub step_at : ℕ → PatternGame → ℕ → ℕ → Step
step_at n g tier m = slice_index_or (steps_of n g tier) m no_step

-- ---- boards
-- the tier of a board
unfoldable pub tier_on : PatternGame → List Cell → ℕ
tier_on g b = tier_of g (number_of is_mine b) (number_of is_theirs b)

-- a legal board has n cells, numbers of pieces that the sides can have, and none of the forbidden patterns
unfoldable pub legal : ℕ → PatternGame → List Cell → Bool
legal n g b = length b == n && (can_have n g (number_of is_mine b) (number_of is_theirs b) && not (has_some g.forbidden b))

-- how the patterns of a board end the game, if they do
abbrev pub end_by_patterns : PatternGame → List Cell → Option End
end_by_patterns g b =
    if has_some g.lost b then Some Lose else (if has_some g.won b then Some Win else (if has_some g.tied b then Some Tie else None))

-- an end, or else another
abbrev pub or_else : Option End → Option End → Option End
or_else (Some e) other = Some e
or_else None other = other

-- how the last move has ended the game, if it has: by the numbers of pieces, or else by a pattern
unfoldable pub end_by_last_move : PatternGame → List Cell → Option End
end_by_last_move g b = or_else (g.over (number_of is_mine b) (number_of is_theirs b)) (end_by_patterns g b)

abbrev pub swap_by : Bool → List Cell → List Cell
swap_by true b = map turned b
swap_by false b = b

abbrev pub turn_by : Option (List ℕ) → List Cell → List Cell
turn_by None b = b
turn_by (Some t) b = permute Empty t b

-- the board as the other player sees it
unfoldable pub passed : PatternGame → List Cell → List Cell
passed g b = turn_by g.turn (swap_by g.swapped b)

-- ---- moves
-- whether the move with this number can be made
unfoldable pub can_move : ℕ → PatternGame → List Cell → ℕ → Bool
can_move n g b m = fits (step_at n g (tier_on g b) m).before b

-- the board after a move, as the other player sees it
unfoldable pub moved : ℕ → PatternGame → List Cell → ℕ → List Cell
moved n g b m = passed g (stepped (step_at n g (tier_on g b) m) b)

-- whether the move with this number can have led to d from a board of the tier
unfoldable pub can_have_led_here : ℕ → PatternGame → ℕ → List Cell → ℕ → Bool
can_have_led_here n g tier d m = fits (step_at n g tier m).after (passed g d)

-- the board before the move with this number, as the player who made it saw it
unfoldable pub undo : ℕ → PatternGame → ℕ → List Cell → ℕ → List Cell
undo n g tier d m = taken_back (step_at n g tier m) (passed g d)

-- ---- the tiers to which steps lead
-- a step as two boards of n cells on which nothing else lies: before it, and after it
abbrev pub alone_before : ℕ → Step → List Cell
alone_before n s = taken_back s (replicate n Empty)

abbrev pub alone_after : ℕ → Step → List Cell
alone_after n s = stepped s (replicate n Empty)

-- how many pieces there are after a step, from how many there were
abbrev pub number_after : ℕ → Step → (Cell → Bool) → ℕ → ℕ
number_after n s p was = was + number_of p (alone_after n s) - number_of p (alone_before n s)

-- whether a board of these numbers of the mover's and of the opponent's pieces can have the pieces that a step changes, and room for those that it brings
unfoldable pub has_enough : ℕ → Step → ℕ → ℕ → Bool
has_enough n s mine theirs =
    nat_le (number_of is_mine (alone_before n s)) mine
    && (nat_le (number_of is_theirs (alone_before n s)) theirs
    && nat_le (number_after n s is_mine mine + number_after n s is_theirs theirs) n)

-- the tier of a board after a step from these numbers of pieces
unfoldable pub tier_after : ℕ → PatternGame → Step → ℕ → ℕ → ℕ
tier_after n g s mine theirs = tier_of g (number_after n s is_mine mine) (number_after n s is_theirs theirs)

-- the other tier to which a step leads from these numbers of pieces, if it leads to one
unfoldable pub child_by : ℕ → PatternGame → ℕ → ℕ → Step → Option ℕ
child_by n g mine theirs s = if can_play n g mine theirs && (has_enough n s mine theirs && not (tier_after n g s mine theirs == tier_of g mine theirs))
    then Some (tier_after n g s mine theirs)
    else None

-- the other tiers to which steps from a tier lead, ascending
unfoldable pub child_tiers : ℕ → PatternGame → ℕ → List ℕ
child_tiers n g tier = if nat_le (fewer g tier) (more g tier)
    then put_all [] (filter_map (child_by n g (more g tier) (fewer g tier)) (steps_of n g tier) ++ filter_map (child_by n g (fewer g tier) (more g tier)) (steps_of n g tier))
    else []

-- ---- indexes: the boards of a tier on which the mover has no fewer pieces come first, numbered as arrangements
-- how many boards there are with these numbers of pieces
unfoldable pub boards_with : ℕ → PatternGame → ℕ → ℕ → ℕ
boards_with n g mine theirs = if can_have n g mine theirs then arrangements n mine theirs else 0

-- how many indexes a tier has
unfoldable pub size_of : ℕ → PatternGame → ℕ → ℕ
size_of n g tier = if nat_le (fewer g tier) (more g tier)
    then boards_with n g (more g tier) (fewer g tier) + (if more g tier == fewer g tier then 0 else boards_with n g (fewer g tier) (more g tier))
    else 0

-- how many boards of its tier come before those with the numbers of pieces of a board
unfoldable pub boards_before : ℕ → PatternGame → List Cell → ℕ
boards_before n g b = if nat_le (number_of is_theirs b) (number_of is_mine b) then 0 else boards_with n g (number_of is_theirs b) (number_of is_mine b)

-- the index of a board in its tier
unfoldable pub index_on : ℕ → PatternGame → List Cell → ℕ
index_on n g b = boards_before n g b + board_index b

-- the board of a tier with this index
unfoldable pub board_at : ℕ → PatternGame → ℕ → ℕ → List Cell
board_at n g tier i = if nat_lt i (boards_with n g (more g tier) (fewer g tier))
    then board_numbered n (more g tier) (fewer g tier) i
    else board_numbered n (fewer g tier) (more g tier) (i - boards_with n g (more g tier) (fewer g tier))

-- ---- the game
-- the game with numbered moves, on n cells
abbrev pub pattern_game : ℕ → PatternGame → MoveGame (List Cell) (List ℕ)
pattern_game n g = record {
  name = g.name;
  start = g.start;
  legal = legal n g;
  end_by_last_move = end_by_last_move g;
  end_if_no_move = λ b. g.stuck;
  move_number_bound = λ t. length (steps_of n g t);
  can_move = can_move n g;
  moved = moved n g;
  can_have_led_here = can_have_led_here n g;
  undo = undo n g;
  symmetries = g.symmetries;
  image = λ p b. permute Empty p b;
  tier = tier_on g;
  index = index_on n g;
  board = board_at n g;
  size = size_of n g;
  child_tiers = child_tiers n g;
  tier_rank = rank_of n g;
}

-- the rules of its positions
abbrev pub pattern_rules : ℕ → PatternGame → Rules
pattern_rules n g = move_rules (pattern_game n g)
