-- What each small game proves: tests that compute. Each says the first number that fails it, so that a check that fails names a board.
use Rattle.std.specs.Prelude.{◌≡◌, ℕ, zero, suc, ◌+◌, ◌≤◌, Bool, true, ◌&&◌, ◌==◌, nat_le, length, Option, None, Some, if◌then◌else◌}
use Rattle.std.specs.List.{filter, list_all, range_with_len}
use Rattle.std.specs.Str.{bytes_eq}
use Rattle.gm_game.specs.declared.limits.TheConstants.{NAME}
use Rattle.gm_game.specs.Shown.{is_plain}
use Rattle.gm_game.specs.Texts.{IsPaddedText}
use Rattle.gm_pieces.specs.MoveGames.{is_undecided}
use Rattle.gm_pieces.specs.Small.{SmallGame, is_board}

-- the first of n numbers from k on that fails a test
unfoldable pub first_failing : (ℕ → Bool) → ℕ → ℕ → Option ℕ
first_failing p k zero = None
first_failing p k (suc n) = if p k then first_failing p (k + 1) n else Some k

-- the first number below n that fails a test
abbrev pub first_wrong : ℕ → (ℕ → Bool) → Option ℕ
first_wrong n p = first_failing p 0 n

abbrev pub implies : Bool → Bool → Bool
implies x y = if x then y else true

abbrev pub is_kept : SmallGame → ℕ → ℕ → Bool
is_kept g b m = implies (g.can_move b m) (is_board g (g.moved b m) && (g.can_have_led_here (g.moved b m) m && (g.undo (g.moved b m) m == b)))

-- a move keeps the board legal, and taken back it gives the board
abbrev pub keeps : SmallGame → ℕ → Bool
keeps g b = implies (g.legal b && is_undecided (g.over b)) (list_all (is_kept g b) (range_with_len 0 g.bound))

abbrev pub is_redone : SmallGame → ℕ → ℕ → Bool
is_redone g d m = implies (g.can_have_led_here d m) (implies (is_board g (g.undo d m)) (implies (g.can_move (g.undo d m) m) (g.moved (g.undo d m) m == d)))

-- a move that is taken back and made again gives the board
abbrev pub redoes : SmallGame → ℕ → Bool
redoes g d = implies (g.legal d) (list_all (is_redone g d) (range_with_len 0 g.bound))

-- at most 128 moves lead from a legal board, and at most 128 to it
abbrev pub has_room : SmallGame → ℕ → Bool
has_room g b = implies (g.legal b) (nat_le (length (filter (g.can_move b) (range_with_len 0 g.bound))) 128 && nat_le (length (filter (g.can_have_led_here b) (range_with_len 0 g.bound))) 128)

-- the text of a legal board is short and plain, and says the board
abbrev pub tells : SmallGame → ℕ → Bool
tells g b = implies (g.legal b) (nat_le (length (g.text b)) 64 && (list_all is_plain (g.text b) && (g.told (g.text b) == b)))

-- the text of a move is short and plain, and no other move has it
abbrev pub is_apart : SmallGame → ℕ → ℕ → Bool
is_apart g m n = implies (bytes_eq (g.step_text m) (g.step_text n)) (m == n)

abbrev pub has_own_text : SmallGame → ℕ → Bool
has_own_text g m = nat_le (length (g.step_text m)) 64 && (list_all is_plain (g.step_text m) && list_all (is_apart g m) (range_with_len 0 g.bound))

pub record IsSmallGame (g : SmallGame) : Type 0 where
  pub numbers : g.bound ≤ 65536
  pub small : g.size ≤ 16777216
  pub name_length : length g.name ≡ NAME
  pub name_text : IsPaddedText g.name
  pub start : is_board g g.start ≡ true
  pub few : first_wrong g.size (has_room g) ≡ None
  pub kept : first_wrong g.size (keeps g) ≡ None
  pub redone : first_wrong g.size (redoes g) ≡ None
  pub texts : first_wrong g.size (tells g) ≡ None
  pub moves : first_wrong g.bound (has_own_text g) ≡ None
