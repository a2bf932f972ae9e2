-- Small games: boards are the numbers below a bound, moves are too, and what holds of them is computed for each. There is one tier and no symmetry.
use Rattle.std.specs.Prelude.{ℕ, Bool, ◌&&◌, nat_lt, List, [], ◌∷◌, ◌==◌, Option, if◌then◌else◌}
use Rattle.gm_game.specs.declared.position.End.{End}
use Rattle.gm_game.specs.Rules.{Rules}
use Rattle.gm_pieces.specs.MoveGames.{MoveGame, move_rules}

-- what each such game states
pub record SmallGame : Type 0 where
  pub name : List ℕ
  -- boards are numbers below `size`, numbers of moves are below `bound`
  pub size : ℕ
  pub bound : ℕ
  pub start : ℕ
  pub legal : ℕ → Bool
  -- how the last move has ended the game, if it has, and how the game ends for a player who can't move
  pub over : ℕ → Option End
  pub stuck : End
  pub can_move : ℕ → ℕ → Bool
  pub moved : ℕ → ℕ → ℕ
  pub can_have_led_here : ℕ → ℕ → Bool
  pub undo : ℕ → ℕ → ℕ
  -- the text of a board, the board of a text, and the text of a move
  pub text : ℕ → List ℕ
  pub told : List ℕ → ℕ
  pub step_text : ℕ → List ℕ

-- a legal board is below the size
abbrev pub is_board : SmallGame → ℕ → Bool
is_board g b = nat_lt b g.size && g.legal b

abbrev pub small_game : SmallGame → MoveGame ℕ ℕ
small_game g = record {
  name = g.name;
  start = g.start;
  legal = is_board g;
  end_by_last_move = g.over;
  end_if_no_move = λ b. g.stuck;
  move_number_bound = λ t. g.bound;
  can_move = g.can_move;
  moved = g.moved;
  can_have_led_here = λ t d m. g.can_have_led_here d m;
  undo = λ t d m. g.undo d m;
  symmetries = 0 ∷ [];
  image = λ x b. b;
  tier = λ b. 0;
  index = λ b. b;
  board = λ t i. i;
  size = λ t. if t == 0 then g.size else 0;
  child_tiers = λ t. [];
  tier_rank = λ t. 0;
}

abbrev pub small_rules : SmallGame → Rules
small_rules g = move_rules (small_game g)
