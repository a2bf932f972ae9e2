-- What a request says, as plain data.
use Rattle.std.specs.Prelude.{ℕ, Bool, true, false, List, Option, Some, None, option_map}
use Rattle.gm_play.specs.declared.sides.Side.{Side}
use Rattle.gm_backward.specs.declared.plan.Plan.{Plan}
use Rattle.gm_command.specs.declared.manual.Manual.{Manual}
use Rattle.gm_command.specs.declared.requests.Question.{Question}
use Rattle.gm_command.specs.declared.requests.PositionSearch.{PositionSearch}
use Rattle.gm_command.specs.declared.requests.CountsRequest.{CountsRequest}
use Rattle.gm_command.specs.declared.requests.ListForm.{ListForm}
use Rattle.gm_command.specs.declared.requests.AskRequest.{AskRequest}
use Rattle.gm_command.specs.declared.requests.Telling.{Telling}
use Rattle.gm_command.specs.declared.requests.TableLocation.{TableLocation}
use Rattle.gm_command.specs.declared.requests.TableLocation.TheVariants.{Memory, Folder, ReadOnly}
use Rattle.gm_command.specs.declared.requests.TableCommand.{TableCommand}
use Rattle.gm_command.specs.declared.requests.TableCommand.TheVariants as table
use Rattle.gm_command.specs.declared.requests.GameCommand.{GameCommand}
use Rattle.gm_command.specs.declared.requests.GameCommand.TheVariants as command
use Rattle.gm_command.specs.declared.requests.GameRequest.{GameRequest}
use Rattle.gm_command.specs.declared.requests.SheetRequest.{SheetRequest}
use Rattle.gm_command.specs.declared.requests.Request.{Request}
use Rattle.gm_command.specs.declared.requests.Request.TheVariants as request

-- what a command about a game says
pub data CommandContent : Type 0 where
  solving : Bool → CommandContent
  exploring : Option (List ℕ) → Question → CommandContent
  filtering : Question → CommandContent
  paging : Option (List ℕ) → ℕ → Option (List ℕ) → CommandContent
  placed : ℕ → ℕ → Bool → CommandContent
  locating : List ℕ → Bool → CommandContent
  finding : PositionSearch → CommandContent
  counting : CountsRequest → CommandContent
  seeking_longest : Bool → ℕ → Bool → CommandContent
  answering : AskRequest → CommandContent
  analysing : CommandContent
  checking : List ℕ → Bool → CommandContent
  playing : Option (List ℕ) → Side → Bool → CommandContent
  naming : CommandContent

-- the numbers of a plan
pub record PlanNumbers : Type 0 where
  pub workers : ℕ
  pub shards : ℕ
  pub piece : ℕ
  pub fastest : Bool

-- what a request about a game says: the game's name, the command, the folder of the tables with whether it is only read (none: memory), the plan, and how
-- progress is reported
pub record GameContent : Type 0 where
  pub game : List ℕ
  pub command : CommandContent
  pub kept : Option (List ℕ × Bool)
  pub plan : PlanNumbers
  pub progress : Telling

-- what a request for a sheet says: the game's name, the heading, whether values are shown, whether only the moves of the side to move are counted, the template of
-- captions, whether puzzles are sorted, whether best moves are marked, the plan, and how progress is reported
pub record SheetContent : Type 0 where
  pub game : Option (List ℕ)
  pub title : Option (List ℕ)
  pub valued : Bool
  pub own_moves : Bool
  pub template : Option (List ℕ)
  pub rising : Bool
  pub arrow : Bool
  pub plan : PlanNumbers
  pub progress : Telling

-- what a request says
pub data Content : Type 0 where
  list_of_games : Bool → ListForm → Content
  about_game : GameContent → Content
  page_of_games : List ℕ → Content
  sheet_of_list : SheetContent → Content
  about_program : Manual → Content

-- the same of the code's types, which have references
abbrev pub kept_at : TableLocation → Option (List ℕ × Bool)
kept_at Memory = None
kept_at (Folder folder) = Some (folder.now, false)
kept_at (ReadOnly folder) = Some (folder.now, true)

abbrev pub plan_of : Plan → PlanNumbers
plan_of plan = record { workers = plan.workers; shards = plan.shards; piece = plan.piece; fastest = plan.fastest }

abbrev pub table_content : TableCommand → CommandContent
table_content (table.Solve json) = solving json
table_content (table.Explore position question) = exploring (option_map (λ t. t.now) position) question
table_content (table.Filter question) = filtering question
table_content (table.Page page) = paging (option_map (λ t. t.now) page.position) page.limit (option_map (λ t. t.now) page.engine)
table_content (table.At tier index json) = placed tier index json
table_content (table.Find search) = finding search
table_content (table.Counts request) = counting request
table_content (table.Longest reached limit json) = seeking_longest reached limit json
table_content table.Analyse = analysing
table_content (table.Play play) = playing (option_map (λ t. t.now) play.position) play.first play.drawn

abbrev pub command_content : GameCommand → CommandContent
command_content (command.FromTables asked) = table_content asked
command_content (command.Ask request) = answering request
command_content (command.Locate position json) = locating position.now json
command_content (command.Check folder json) = checking folder.now json
command_content command.Naming = naming

abbrev pub game_content : GameRequest → GameContent
game_content r = record { game = r.game.now; command = command_content r.command; kept = kept_at r.tables; plan = plan_of r.plan; progress = r.progress }

abbrev pub sheet_content : SheetRequest → SheetContent
sheet_content r = record {
  game = option_map (λ t. t.now) r.game;
  title = option_map (λ t. t.now) r.title;
  valued = r.valued;
  own_moves = r.own_moves;
  template = option_map (λ t. t.now) r.template;
  rising = r.rising;
  arrow = r.arrow;
  plan = plan_of r.plan;
  progress = r.progress;
}

abbrev pub content_of : Request → Content
content_of (request.List all form) = list_of_games all form
content_of (request.Game game) = about_game (game_content game)
content_of (request.AllGames engine) = page_of_games engine.now
content_of (request.Sheet sheet) = sheet_of_list (sheet_content sheet)
content_of (request.Manual manual) = about_program manual
