-- What the chess endings and Fox and Hounds look like, on the board of chess.
use Rattle.std.specs.Prelude.{ℕ, Bool, List, [], ◌++◌, codes, if◌then◌else◌}
use Rattle.gm_game.specs.declared.position.Position.{Position}
use Rattle.gm_pieces.specs.MoveTexts.{position_text_by, move_text_by}
use Rattle.gm_draw.specs.declared.pictured.Style.TheVariants.{Chess, Hounds}
use Rattle.gm_draw.specs.Chessboards.{chess_board, chess_points}
use Rattle.gm_draw.specs.Pictures.{PictureSpec}
use Rattle.gm_draw.specs.GameSpecs.{GameSpec, game_spec}
use Rattle.gm_squares.specs.Chess.{ending, chess_rules, board as men_at, board_text as men_text, step_text as man_move_text}
use Rattle.gm_squares.specs.Kpk.{kpk, kpk_rules, board as pawn_board_at, board_text as pawn_board_text, step_text as pawn_move_text}
use Rattle.gm_squares.specs.FoxHounds.{fox_and_hounds, foxhounds_rules, board as chase_at, board_text as chase_text, step_text as chase_move_text}

-- the side to move in a chess ending
abbrev pub chess_side : Bool → List ℕ
chess_side white = if white then codes "White" else codes "Black"

abbrev pub chess_mover : Position → List ℕ
chess_mover p = chess_side (men_at p.tier p.index).white_moves

-- king and queen, or king and rook, against king
unfoldable pub chess_picture : Bool → PictureSpec
chess_picture queen = record {
  title = if queen then codes "King and Queen against King" else codes "King and Rook against King";
  style = Chess;
  board = chess_board;
  rows = [];
  points = chess_points;
  mover = chess_mover;
  naming = codes "A square is its file and its rank, as e4.\nA position is White's king and " ++ (if queen then codes "queen, as Ke1 Qa1,\n" else codes "rook, as Ke1 Ra1,\n") ++ codes "Black's king, as ke8, and who moves: w or b.\nA move is a man's letter, its square, - and the\nsquare that it goes to.\n";
}

abbrev pub chess_spec : Bool → GameSpec
chess_spec queen =
    game_spec (chess_rules queen) (position_text_by (ending queen) (men_text queen)) (move_text_by (λ t m. man_move_text queen m)) (chess_picture queen)

-- king and pawn against king
abbrev pub kpk_mover : Position → List ℕ
kpk_mover p = chess_side (pawn_board_at p.tier p.index).men.white_moves

unfoldable pub kpk_picture : PictureSpec
kpk_picture = record {
  title = codes "King and Pawn against King";
  style = Chess;
  board = chess_board;
  rows = [];
  points = chess_points;
  mover = kpk_mover;
  naming = codes "A square is its file and its rank, as e4.\nA position is White's king and pawn, as Ke1 Pe2,\nBlack's king, as ke8, and who moves: w or b.\nA move is a man's letter, its square, - and the\nsquare that it goes to; Qe7-e8 makes a queen.\n";
}

abbrev pub kpk_spec : GameSpec
kpk_spec = game_spec kpk_rules (position_text_by kpk pawn_board_text) (move_text_by pawn_move_text) kpk_picture

-- the side to move in Fox and Hounds
abbrev pub chase_side : Bool → List ℕ
chase_side hounds = if hounds then codes "hounds" else codes "fox"

abbrev pub chase_mover : Position → List ℕ
chase_mover p = chase_side (chase_at p.index).hounds_move

unfoldable pub foxhounds_picture : PictureSpec
foxhounds_picture = record {
  title = codes "Fox and Hounds";
  style = Hounds;
  board = chess_board;
  rows = [];
  points = chess_points;
  mover = chase_mover;
  naming = codes "A square is its file and its rank, as e3.\nA position is the fox, as fd8, and the hounds, as\nha1, from the first rank up; then f or h for who\nmoves. A move is from one square to another.\n";
}

abbrev pub foxhounds_spec : GameSpec
foxhounds_spec = game_spec foxhounds_rules (position_text_by fox_and_hounds chase_text) (move_text_by (λ t m. chase_move_text m)) foxhounds_picture
