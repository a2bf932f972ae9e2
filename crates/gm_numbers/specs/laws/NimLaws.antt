-- The tables of Nim are right: each field but the first two is a computation.
use Rattle.std.specs.Prelude.{Bool, true, false}
use Rattle.gm_pieces.specs.Common.{refl, arith, IsShown, texts_are_shown}
use Rattle.gm_pieces.specs.Small.{small_game}
use Rattle.gm_pieces.specs.SmallTables.{IsSmallGame, first_failing}
use Rattle.gm_pieces.specs.laws.SmallLaws.{small_numbered, small_readable}
use Rattle.gm_numbers.specs.Nim.{nim, nim_rules, nim_text, nim_move, sizes, weight, heap_of, can_move, moved, can_have_led_here, undo, board_text, number_in, step_text}

pub tables : (misere : Bool) → IsSmallGame (nim misere)
unfolding sizes weight heap_of can_move moved can_have_led_here undo board_text number_in step_text first_failing
tables false = record {
  numbers = omega arith;
  small = omega arith;
  name_length = refl;
  name_text = refl;
  start = refl;
  few = refl;
  kept = refl;
  redone = refl;
  texts = refl;
  moves = refl;
}
tables true = record {
  numbers = omega arith;
  small = omega arith;
  name_length = refl;
  name_text = refl;
  start = refl;
  few = refl;
  kept = refl;
  redone = refl;
  texts = refl;
  moves = refl;
}

pub shown : (misere : Bool) → IsShown (nim_rules misere) nim_text nim_move
shown misere = texts_are_shown (small_game (nim misere)) board_text (λ t m. step_text m)
    (small_numbered (nim misere) (tables misere)) (small_readable (nim misere) (tables misere))
