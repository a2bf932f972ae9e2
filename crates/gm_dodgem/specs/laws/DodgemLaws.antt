-- The tables of Dodgem are right: each field but the first two is a computation.
use Rattle.gm_pieces.specs.Common.{refl, arith, IsShown, texts_are_shown}
use Rattle.gm_pieces.specs.Small.{small_game}
use Rattle.gm_pieces.specs.SmallTables.{IsSmallGame, first_failing}
use Rattle.gm_pieces.specs.laws.SmallLaws.{small_numbered, small_readable}
use Rattle.gm_dodgem.specs.Dodgem.{dodgem, dodgem_rules, dodgem_text, dodgem_move, holds, crew_of, driven, is_crew, across, leads, is_clear, legal, can_move, moved, can_have_led_here, undo, end_by_last_move, cell_byte, board_text, step_text, marked_or, crew_in, number_in}

pub tables : IsSmallGame dodgem
unfolding holds crew_of driven is_crew across leads is_clear legal can_move moved can_have_led_here undo end_by_last_move cell_byte board_text step_text marked_or crew_in number_in first_failing
tables = record {
  numbers = omega arith;
  small = omega arith;
  name_length = refl;
  name_text = refl;
  start = refl;
  few = refl;
  kept = refl;
  redone = refl;
  texts = refl;
  moves = refl;
}

pub shown : IsShown dodgem_rules dodgem_text dodgem_move
shown = texts_are_shown (small_game dodgem) board_text (λ t m. step_text m) (small_numbered dodgem tables) (small_readable dodgem tables)
