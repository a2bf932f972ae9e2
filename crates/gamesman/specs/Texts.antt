-- The texts about a position: the answers to questions about it.
use Rattle.std.specs.Prelude.{ℕ, Bool, true, false, List, []}
use Rattle.gm_game.specs.declared.position.Position.{Position}
use Rattle.gm_game.specs.Rules.{Rules}
use Rattle.gm_play.specs.PlayTexts.{IsAnswerText, AreMoveRows, IsLineText, IsReadAs}
use Rattle.gm_play.specs.PlaceTexts.{IsPositionText}
use Rattle.gm_play.specs.Replies.{IsRepliesText}
use Rattle.gm_play.specs.Why.{IsWhyText}
use Rattle.gm_draw.specs.Pictures.{drawn}
use Rattle.gm_json.specs.Answers.{IsPositionJson, value_asked}
use Rattle.gm_json.specs.Boards.{IsBoardJson}
use Rattle.gm_json.specs.Lines.{IsLineJson}
use Rattle.gm_json.specs.Moves.{IsMovesJson}
use Rattle.gm_json.specs.RepliesLines.{IsRepliesJson}
use Rattle.gm_json.specs.Whys.{IsWhyJson}
use Rattle.gm_draw.specs.declared.look.Look.{Look}
use Rattle.gm_page.specs.ShowTexts.{IsShowText, IsSvg, IsTikz}
use Rattle.gm_command.specs.declared.requests.DiagramForm.{DiagramForm}
use Rattle.gm_command.specs.declared.requests.DiagramRequest.{DiagramRequest}
use Rattle.gm_command.specs.declared.requests.DiagramForm.TheVariants.{Svg, Tikz}
use Rattle.gm_command.specs.declared.requests.Question.{Question}
use Rattle.gm_command.specs.declared.requests.Question.TheVariants.{Value, Moves, Replies, Why, Line, Show, Board, Diagram}
use Rattle.gamesman.specs.Games.{GameSpec}
use Rattle.gamesman.specs.Outputs.{IsTextLine}

-- the line of JSON with the true value of the position with this text; on request, also with its canonical position
abbrev pub IsValueLine : Rules → (Position → List ℕ) → (Position → ℕ → List ℕ) → Bool → List ℕ → List ℕ → Type 0
IsValueLine r shown move_shown canonical position = IsTextLine (IsPositionJson r shown move_shown (value_asked canonical) [] position)

-- what `at` writes of a position: a line of JSON, or a row
abbrev pub IsPlacedText : Rules → (Position → List ℕ) → (Position → ℕ → List ℕ) → Position → Bool → List ℕ → Type 0
IsPlacedText r shown move_shown p true out = IsValueLine r shown move_shown true (shown p) out
IsPlacedText r shown move_shown p false out = IsPositionText r shown p out

-- the line of JSON with the board and the true value of the position with this text
abbrev pub IsBoardLine : GameSpec → List ℕ → List ℕ → Type 0
IsBoardLine g position out = (p : Position) × IsReadAs g.rules g.shown g.move_shown position p
    × IsTextLine (IsBoardJson g.rules g.shown g.move_shown p (drawn g.picture g.shown p) (g.picture.mover p)) out

module _ (r : Rules) (shown : Position → List ℕ) (move_shown : Position → ℕ → List ℕ) (position : List ℕ) where
  -- the line that `query` writes: the text of the true value of the position with this text
  abbrev pub IsQueryLine : List ℕ → Type 0
  IsQueryLine = IsTextLine (IsAnswerText r shown move_shown position)

  -- its moves: as a line of JSON, or as rows
  abbrev pub IsMovesText : Bool → Bool → List ℕ → Type 0
  IsMovesText distinct true = IsTextLine (IsMovesJson r shown move_shown distinct position)
  IsMovesText distinct false = AreMoveRows r shown move_shown distinct position

-- the look of a diagram that is asked for
abbrev pub look_asked : DiagramRequest → Look
look_asked asked = record { valued = asked.valued; figures = asked.figures }

-- the diagram of the position with this text in this form: as an SVG document, or as a TikZ picture
abbrev pub IsDiagramIn : DiagramForm → GameSpec → Look → Bool → List ℕ → List ℕ → Type 0
IsDiagramIn Svg g look arrow position out = IsSvg g.rules g.shown g.move_shown g.picture look arrow position out
IsDiagramIn Tikz g look arrow position out = IsTikz g.rules g.shown g.move_shown g.picture look arrow position out

abbrev pub IsDiagramText : GameSpec → DiagramRequest → List ℕ → List ℕ → Type 0
IsDiagramText g asked position out = IsDiagramIn asked.form g (look_asked asked) asked.arrow position out

-- the answer to a question about the position with this text
abbrev pub IsTextFor : GameSpec → Question → List ℕ → List ℕ → Type 0
IsTextFor g (Value true) position out = IsValueLine g.rules g.shown g.move_shown false position out
IsTextFor g (Value false) position out = IsQueryLine g.rules g.shown g.move_shown position out
IsTextFor g (Moves distinct json) position out = IsMovesText g.rules g.shown g.move_shown position distinct json out
IsTextFor g (Replies distinct true) position out = IsRepliesJson g.rules g.shown g.move_shown distinct position out
IsTextFor g (Replies distinct false) position out = IsRepliesText g.rules g.shown g.move_shown distinct position out
IsTextFor g (Why true) position out = IsWhyJson g.rules g.shown g.move_shown position out
IsTextFor g (Why false) position out = IsWhyText g.rules g.shown g.move_shown position out
IsTextFor g (Line limit true) position out = IsLineJson g.rules g.shown g.move_shown position limit out
IsTextFor g (Line limit false) position out = IsLineText g.rules g.shown g.move_shown position limit out
IsTextFor g (Show explained) position out = IsShowText g.rules g.shown g.move_shown g.picture explained position out
IsTextFor g Board position out = IsBoardLine g position out
IsTextFor g (Diagram asked) position out = IsDiagramText g asked position out
