-- Pages with the engine.
use Rattle.std.specs.Prelude.{◌≡◌, ◌⊎◌, ◌++◌, ℕ, true, false, List, [], ◌∷◌, Option, Result, Err, IfErr}
use Rattle.std.specs.List.{flat_map}
use Rattle.gm_play.specs.PlayTexts.{IsNoPosition}
use Rattle.gm_page.specs.Engines.{AreDigits}
use Rattle.gm_page.specs.Pages.{IsPage, game_tree, with_viewer}
use Rattle.gm_page.specs.Scripts.{script_line}
use Rattle.gamesman.specs.declared.fault.Fault.{Fault}
use Rattle.gamesman.specs.declared.fault.Fault.TheVariants.{NoSuchPosition, OutOfMemory, EngineNotRead, NotAnEngine}
use Rattle.gamesman.specs.Games.{GameSpec, countdown_spec, takeaway_spec, wheel_spec, nine_spec, mutorere_spec, dao_spec, hare_spec, pong_spec, shisima_spec, tapatan_spec, dodgem_spec, chess_spec, tactix_spec}
use Rattle.gamesman.specs.Games.{connect_spec, nine_holes_spec, picaria_spec, tictactoe_misere_spec, notakto_spec, kpk_spec, hexapawn_spec, toads_spec, hex_three_spec}
use Rattle.gamesman.specs.Games.{domineering_four_spec, cram_four_spec, kayles_spec, nim_spec, chomp_spec}
use Rattle.gamesman.specs.Outputs.{IsWritten}
use Rattle.gamesman.specs.Refusals.{IsRefused}
use Rattle.gamesman.specs.Told.{IsTold}

-- no engine is there: memory is refused, its file can't be read, or has no engine's text
abbrev pub IsEngineFault : Fault → Type 0
IsEngineFault (OutOfMemory error) = Unit {0}
IsEngineFault EngineNotRead = Unit {0}
IsEngineFault NotAnEngine = Unit {0}
IsEngineFault _ = ⊥

-- ---- one game
-- the page of the position with this text, with some engine
abbrev pub IsPaged : GameSpec → List ℕ → ℕ → List ℕ → Type 0
IsPaged g position limit out = (digits : List ℕ) × AreDigits digits
    × IsPage g.rules g.shown g.move_shown g.picture position limit digits out

-- the page of the position with this text is written; if no position has the text, that is the fault, and else it is that of the engine or of a question about
-- the position
pub record IsEnginePaged (g : GameSpec) (position : List ℕ) (limit : ℕ) (before after : Option (List ℕ)) (result : Result ℕ Fault) : Type 0 where
  pub written : IsWritten (IsPaged g position limit) before after result
  pub refused : IfErr result (λ fault. IsEngineFault fault ⊎ IsRefused g.rules g.shown g.move_shown position fault)
  pub unread : IsNoPosition g.rules g.shown g.move_shown position → result ≡ Err NoSuchPosition

-- ---- all games
-- the line of a game
abbrev pub game_line : GameSpec → List ℕ
game_line g = script_line (game_tree g.rules g.shown g.picture)

-- the games that the engine solves, those with the most to see first
abbrev pub line_games : List GameSpec
line_games = nine_spec 9 ∷ dao_spec ∷ nine_spec 8 ∷ nine_spec 6 ∷ []

abbrev pub row_games : List GameSpec
row_games = connect_spec 4 4 ∷ nine_holes_spec ∷ picaria_spec ∷ tictactoe_misere_spec ∷ notakto_spec ∷ []

abbrev pub board_games : List GameSpec
board_games = mutorere_spec ∷ hare_spec ∷ shisima_spec ∷ pong_spec ∷ tapatan_spec ∷ dodgem_spec ∷ chess_spec false ∷ chess_spec true ∷ []

abbrev pub chase_games : List GameSpec
chase_games = kpk_spec ∷ hexapawn_spec ∷ toads_spec ∷ hex_three_spec ∷ []

abbrev pub tactix_games : List GameSpec
tactix_games = tactix_spec 4 false ∷ tactix_spec 4 true ∷ tactix_spec 3 false ∷ tactix_spec 3 true ∷ tactix_spec 2 false ∷ tactix_spec 2 true
    ∷ tactix_spec 1 false ∷ tactix_spec 1 true ∷ []

abbrev pub taking_games : List GameSpec
taking_games = domineering_four_spec ∷ cram_four_spec ∷ kayles_spec ∷ nim_spec false ∷ nim_spec true ∷ chomp_spec ∷ []

abbrev pub number_games : List GameSpec
number_games = countdown_spec ∷ takeaway_spec ∷ wheel_spec ∷ []

abbrev pub engine_games : List GameSpec
engine_games = line_games ++ row_games ++ board_games ++ chase_games ++ tactix_games ++ taking_games ++ number_games

-- the page of all games with this engine
abbrev pub games_page : List ℕ → List ℕ
games_page digits = with_viewer (flat_map game_line engine_games) digits

-- the page of all games with some engine
abbrev pub IsGamesPage : List ℕ → Type 0
IsGamesPage out = (digits : List ℕ) × AreDigits digits × (out ≡ games_page digits)

-- the page of all games is written, or refused for the reason that no engine is there
abbrev pub IsEveryGame : Option (List ℕ) → Option (List ℕ) → Result ℕ Fault → Type 0
IsEveryGame = IsTold IsGamesPage IsEngineFault
