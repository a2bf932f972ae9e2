-- The games of the module by their numbers: a line for each.
use Rattle.std.specs.Prelude.{ℕ, true, false, List, [], ◌∷◌, slice_get, IfSome}
use Rattle.gm_game.specs.declared.position.Position.{Position}
use Rattle.gm_game.specs.Rules.{Rules}
use Rattle.gm_toys.specs.Subtraction.{number_text, step_text}
use Rattle.gm_toys.specs.Countdown.{countdown}
use Rattle.gm_toys.specs.Wheel.{wheel, target_text}
use Rattle.gm_toys.specs.Takeaway.{takeaway}
use Rattle.gm_patterns.specs.PatternGames.{PatternGame, pattern_rules}
use Rattle.gm_patterns.specs.PatternTexts.{pattern_text, pattern_move_text}
use Rattle.gm_morris.specs.Morris.{nine_points}
use Rattle.gm_pieces.specs.MoveTexts.{position_text_by, move_text_by}
use Rattle.gm_squares.specs.Chess.{ending, chess_rules, board_text, step_text as man_move}
use Rattle.gm_squares.specs.Kpk.{kpk, kpk_rules, board_text as pawn_text, step_text as pawn_move}
use Rattle.gm_dao.specs.DaoRules.{dao_rules}
use Rattle.gm_dao.specs.Texts.{position_text as dao_text, move_text as dao_move_text}
use Rattle.gm_hare.specs.Board.{hare_rules}
use Rattle.gm_hare.specs.Texts.{position_text as hare_text, move_text as hare_move_text}
use Rattle.gm_pong.specs.PongRules.{pong}
use Rattle.gm_ways.specs.Ways.{on_ways}
use Rattle.gm_dodgem.specs.Dodgem.{dodgem_rules, dodgem_text, dodgem_move}
use Rattle.gm_placing.specs.RowRules.{notakto}
use Rattle.gm_placing.specs.HexRules.{hex_three}
use Rattle.gm_sliding.specs.HexapawnRules.{hexapawn}
use Rattle.gm_sliding.specs.ToadsRules.{toads}
use Rattle.gm_dominoes.specs.DominoRules.{domineering_four, cram_four}
use Rattle.gm_dominoes.specs.KaylesRules.{kayles}
use Rattle.gm_connect.specs.ConnectFour.{connect_rules}
use Rattle.gm_connect.specs.Sizes.{size_of}
use Rattle.gm_connect.specs.Texts.{position_text as connect_text, step_text as connect_move}
use Rattle.gm_numbers.specs.Nim.{nim_rules, nim_text, nim_move}
use Rattle.gm_numbers.specs.Chomp.{chomp_rules, chomp_text, chomp_move}
use Rattle.gm_tactix.specs.Board.{tactix_rules}
use Rattle.gm_engine.specs.declared.width.Width.{Width}
use Rattle.gm_engine.specs.declared.width.Width.TheVariants.{Byte, Word}
use Rattle.gm_tactix.specs.Texts.{position_text as tactix_text, move_text as tactix_move_text}

-- a game: how its records are kept, its rules, and the texts of its positions and moves
pub record PlayedGame : Type 0 where
  pub width : Width
  pub rules : Rules
  pub shown : Position → List ℕ
  pub move_shown : Position → ℕ → List ℕ

abbrev pub played : Width → Rules → (Position → List ℕ) → (Position → ℕ → List ℕ) → PlayedGame
played width rules shown move_shown = record { width = width; rules = rules; shown = shown; move_shown = move_shown }

-- a game on n cells that is a table of patterns
abbrev pub patterned : ℕ → PatternGame → PlayedGame
patterned n g = played Byte (pattern_rules n g) (pattern_text n g) (pattern_move_text n g)

-- the games by their numbers, from 0 on. (After Tac Tix come Tic-tac-toe, Three Men's Morris, Achi and Mu Torere, and after the first chess endings misère
-- Tic-tac-toe; Nine Holes and Picaria come before Toads and Frogs.)
abbrev pub games : List PlayedGame
games =
    played Byte (countdown 10) number_text step_text
    ∷ played Byte wheel number_text target_text
    ∷ played Byte (tactix_rules 1 false) (tactix_text 1) (tactix_move_text 1)
    ∷ played Byte (tactix_rules 2 false) (tactix_text 2) (tactix_move_text 2)
    ∷ played Byte (tactix_rules 3 false) (tactix_text 3) (tactix_move_text 3)
    ∷ played Byte (tactix_rules 4 false) (tactix_text 4) (tactix_move_text 4)
    ∷ played Byte (tactix_rules 1 true) (tactix_text 1) (tactix_move_text 1)
    ∷ played Byte (tactix_rules 2 true) (tactix_text 2) (tactix_move_text 2)
    ∷ played Byte (tactix_rules 3 true) (tactix_text 3) (tactix_move_text 3)
    ∷ played Byte (tactix_rules 4 true) (tactix_text 4) (tactix_move_text 4)
    ∷ patterned 9 (nine_points 9)
    ∷ patterned 9 (nine_points 6)
    ∷ patterned 9 (nine_points 8)
    ∷ patterned 9 (on_ways 2)
    ∷ played Byte dao_rules dao_text dao_move_text
    ∷ played Byte hare_rules hare_text hare_move_text
    ∷ patterned 5 pong
    ∷ patterned 9 (on_ways 0)
    ∷ played Byte takeaway number_text step_text
    ∷ patterned 9 (on_ways 1)
    ∷ played Byte dodgem_rules dodgem_text dodgem_move
    ∷ played Word (chess_rules false) (position_text_by (ending false) (board_text false)) (move_text_by (λ t m. man_move false m))
    ∷ played Byte (chess_rules true) (position_text_by (ending true) (board_text true)) (move_text_by (λ t m. man_move true m))
    ∷ patterned 9 (nine_points 1)
    ∷ patterned 9 notakto
    ∷ patterned 9 hex_three
    ∷ patterned 9 hexapawn
    ∷ patterned 9 (nine_points 2)
    ∷ patterned 9 (nine_points 3)
    ∷ patterned 11 toads
    ∷ patterned 16 domineering_four
    ∷ patterned 16 cram_four
    ∷ patterned 12 kayles
    ∷ played Word kpk_rules (position_text_by kpk pawn_text) (move_text_by pawn_move)
    ∷ played Byte (connect_rules 4 4) (connect_text (size_of 4 4)) (λ p c. connect_move c)
    ∷ played Byte (nim_rules false) nim_text nim_move
    ∷ played Byte (nim_rules true) nim_text nim_move
    ∷ played Byte chomp_rules chomp_text chomp_move
    ∷ []

-- the property holds for the game with this number, if there is one
abbrev pub IsFor : ℕ → (PlayedGame → Type 0) → Type 0
IsFor number fact = IfSome (slice_get games number) fact

-- no game has this number
abbrev pub IsNoGame : ℕ → Type 0
IsNoGame number = IsFor number (λ g. ⊥)
