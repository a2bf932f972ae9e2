-- The rules of Nim with heaps of 1, 3, 5 and 7 counters. A board is the number whose digits are the heaps, of radix 2, 4, 6 and 8. Heaps are counted from 0 here,
-- and from 1 in the texts of moves.
use Rattle.std.specs.Prelude.{ℕ, ◌+◌, ◌-◌, ◌*◌, ◌/◌, ◌%◌, Bool, true, ◌&&◌, ◌==◌, nat_le, nat_lt, List, [], ◌∷◌, ◌++◌, codes, None, if◌then◌else◌}
use Rattle.gm_game.specs.declared.position.End.TheVariants.{Lose, Win}
use Rattle.gm_game.specs.declared.position.Position.{Position}
use Rattle.gm_game.specs.Rules.{Rules}
use Rattle.gm_pieces.specs.Small.{SmallGame, small_rules}
use Rattle.gm_numbers.specs.Digits.{digit, four_text, digit_in, pair_text}

-- ---- heaps
-- how many sizes a heap can have
unfoldable pub sizes : ℕ → ℕ
sizes heap = 2 * heap + 2

-- the weight of a heap's digit
unfoldable pub weight : ℕ → ℕ
weight heap = if heap == 0 then 192 else (if heap == 1 then 48 else (if heap == 2 then 8 else 1))

-- how many counters a heap has
unfoldable pub heap_of : ℕ → ℕ → ℕ
heap_of b heap = digit (weight heap) (sizes heap) b

-- ---- moves: 8 times the heap, and how many counters are taken from it
unfoldable pub can_move : ℕ → ℕ → Bool
can_move b m = nat_lt 0 (m % 8) && nat_le (m % 8) (heap_of b (m / 8))

unfoldable pub moved : ℕ → ℕ → ℕ
moved b m = b - m % 8 * weight (m / 8)

unfoldable pub can_have_led_here : ℕ → ℕ → Bool
can_have_led_here d m = nat_lt 0 (m % 8) && nat_lt (heap_of d (m / 8) + m % 8) (sizes (m / 8))

unfoldable pub undo : ℕ → ℕ → ℕ
undo d m = d + m % 8 * weight (m / 8)

-- ---- texts
unfoldable pub board_text : ℕ → List ℕ
board_text b = four_text (heap_of b 0) (heap_of b 1) (heap_of b 2) (heap_of b 3)

unfoldable pub number_in : List ℕ → ℕ
number_in text = digit_in text 0 * 192 + digit_in text 2 * 48 + digit_in text 4 * 8 + digit_in text 6

-- the heap, from 1, and how many counters are taken
unfoldable pub step_text : ℕ → List ℕ
step_text m = pair_text (m / 8 + 1) (m % 8)

-- ---- the game
abbrev pub nim_name : Bool → List ℕ
nim_name misere =
    if misere then codes "nim-misere" ++ 0 ∷ 0 ∷ 0 ∷ 0 ∷ 0 ∷ 0 ∷ [] else codes "nim" ++ 0 ∷ 0 ∷ 0 ∷ 0 ∷ 0 ∷ 0 ∷ 0 ∷ 0 ∷ 0 ∷ 0 ∷ 0 ∷ 0 ∷ 0 ∷ []

-- Nim: a player who can't move loses, since the other has taken the last counter; in the misère game such a player wins
abbrev pub nim : Bool → SmallGame
nim misere = record {
  name = nim_name misere;
  size = 384;
  bound = 32;
  start = 383;
  legal = λ b. true;
  over = λ b. None;
  stuck = if misere then Win else Lose;
  can_move = can_move;
  moved = moved;
  can_have_led_here = can_have_led_here;
  undo = undo;
  text = board_text;
  told = number_in;
  step_text = step_text;
}

abbrev pub nim_rules : Bool → Rules
nim_rules misere = small_rules (nim misere)

abbrev pub nim_text : Position → List ℕ
nim_text p = board_text p.index

abbrev pub nim_move : Position → ℕ → List ℕ
nim_move p m = step_text m
