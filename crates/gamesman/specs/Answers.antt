-- The answer of each command.
use Rattle.std.specs.Prelude.{◌≡◌, ℕ, Bool, true, false, max, List, [], Option, None, Some, Result, Ok, Err, IfErr}
use Rattle.std.specs.Borrow.{Bor}
use Rattle.std.specs.Io.KnownBytes.{Keeps}
use Rattle.std.specs.Option.{option_map}
use Rattle.gm_tierdb.specs.StoreTexts.{unknown_texts}
use Rattle.gm_game.specs.declared.position.Position.{Position}
use Rattle.gm_game.specs.Rules.{Rules}
use Rattle.gm_play.specs.PlayTexts.{IsNoPosition}
use Rattle.gm_json.specs.Words.{line_of}
use Rattle.gm_json.specs.Located.{located_tree}
use Rattle.gm_play.specs.PlaceTexts.{place_row}
use Rattle.gm_play.specs.Places.{IsLocated, IsUnlocated}
use Rattle.gm_play.specs.declared.places.Located.{Located}
use Rattle.gm_command.specs.Names.{game_of_name}
use Rattle.gm_command.specs.declared.requests.Question.{Question}
use Rattle.gm_command.specs.declared.requests.PageRequest.{PageRequest}
use Rattle.gm_command.specs.declared.requests.Request.{Request}
use Rattle.gm_command.specs.declared.requests.GameCommand.{GameCommand}
use Rattle.gm_command.specs.declared.requests.TableCommand.{TableCommand}
use Rattle.gm_page.specs.Pages.{IsPage}
use Rattle.gm_command.specs.declared.requests.Request.TheVariants.{List as Names, Game, AllGames, Sheet}
use Rattle.gm_command.specs.declared.requests.GameCommand.TheVariants.{FromTables, Ask, Locate, Check}
use Rattle.gm_command.specs.declared.requests.TableCommand.TheVariants.{Solve, Explore, Filter, Page, At, Find, Counts, Longest, Analyse, Play}
use Rattle.gamesman.specs.declared.fault.Fault.{Fault}
use Rattle.gamesman.specs.declared.fault.Fault.TheVariants.{NoSuchGame, NoSuchPosition, OutOfMemory, OutputFailed, OutputClosed}
use Rattle.gamesman.specs.Games.{GameSpec, spec_of}
use Rattle.gamesman.specs.Outputs.{IsWritten}
use Rattle.gamesman.specs.Texts.{IsTextFor}
use Rattle.gamesman.specs.Refusals.{IsRefused}
use Rattle.gamesman.specs.Filters.{IsFiltered}
use Rattle.gamesman.specs.Finds.{AreFoundBy}
use Rattle.gamesman.specs.Searches.{IsPlaced, IsUnsearched, IsCountsOf, IsLongestOf}
use Rattle.gamesman.specs.Asks.{IsAskedFrom, IsAskedWith, IsAskedIn, ready_text}
use Rattle.gamesman.specs.inner.Services.{done_of}
use Rattle.gamesman.specs.declared.service.Ended.{Ended}
use Rattle.gamesman.specs.declared.service.Service.{Service}
use Rattle.gamesman.specs.Solving.{IsSolvedBy}
use Rattle.gamesman.specs.Checking.{IsCheckedBy}
use Rattle.gamesman.specs.Analysing.{IsAnalysedBy}
use Rattle.gamesman.specs.Plays.{IsPlayed}
use Rattle.gamesman.specs.Listing.{IsListed}
use Rattle.gamesman.specs.Listed.{IsSheeted}
use Rattle.gamesman.specs.Told.{IsTold}
use Rattle.gamesman.specs.Engines.{IsEnginePaged, IsEveryGame}

module _ (r : Rules) (shown : Position → List ℕ) (move_shown : Position → ℕ → List ℕ) (position : List ℕ) where
  -- a question about the position with this text is answered by such a text; if no position has the text, that is the fault
  pub record IsAnsweredBy (IsText : List ℕ → Type 0) (before after : Option (List ℕ)) (result : Result ℕ Fault) : Type 0 where
    pub written : IsWritten IsText before after result
    pub refused : IfErr result (IsRefused r shown move_shown position)
    pub unread : IsNoPosition r shown move_shown position → result ≡ Err NoSuchPosition

-- the text of the position that a question is about: that of the start if none is given
abbrev pub text_asked : GameSpec → Option (Bor (List ℕ)) → List ℕ
text_asked g position = elim position [ None ↦ g.shown g.rules.initial | Some text ↦ text.now ]

-- a question about a position, or about the start, is answered
abbrev pub IsExplored : GameSpec → Option (Bor (List ℕ)) → Question → Option (List ℕ) → Option (List ℕ) → Result ℕ Fault → Type 0
IsExplored g position question before after result =
    IsAnsweredBy g.rules g.shown g.move_shown (text_asked g position) (IsTextFor g question (text_asked g position)) before after result

-- the page of the position with this text is written, without an engine, or with that in the file
abbrev pub IsPagedWith : Option (Bor (List ℕ)) → GameSpec → List ℕ → ℕ → Option (List ℕ) → Option (List ℕ) → Result ℕ Fault → Type 0
IsPagedWith None g position limit before after result = IsAnsweredBy g.rules g.shown g.move_shown position
    (IsPage g.rules g.shown g.move_shown g.picture position limit []) before after result
IsPagedWith (Some engine) g position limit before after result = IsEnginePaged g position limit before after result

-- a page is written as requested
abbrev pub IsPagedBy : GameSpec → PageRequest → Option (List ℕ) → Option (List ℕ) → Result ℕ Fault → Type 0
IsPagedBy g asked before after result = IsPagedWith asked.engine g (text_asked g asked.position) (max asked.limit 1) before after result

-- a place as a line of JSON, or as a row
abbrev pub located_text : (Position → List ℕ) → Bool → Located → List ℕ
located_text shown true l = line_of (located_tree shown l)
located_text shown false l = place_row shown l

-- the text that locates the position with this text
abbrev pub IsLocatedText : Rules → (Position → List ℕ) → List ℕ → Bool → List ℕ → Type 0
IsLocatedText r shown text json out = (l : Located) × IsLocated r shown text l × (out ≡ located_text shown json l)

-- the reason why a position is not located: no position has this text, or a write failed
abbrev pub IsUnlocatedFor : Rules → (Position → List ℕ) → List ℕ → Fault → Type 0
IsUnlocatedFor r shown text NoSuchPosition = IsUnlocated r shown text
IsUnlocatedFor r shown text (OutOfMemory error) = Unit {0}
IsUnlocatedFor r shown text OutputFailed = Unit {0}
IsUnlocatedFor r shown text OutputClosed = Unit {0}
IsUnlocatedFor r shown text _ = ⊥

-- the tier and index of the position with this text are written; if no position has the text, that is the fault
pub record IsLocatedBy (r : Rules) (shown : Position → List ℕ) (text : List ℕ) (json : Bool) (before after : Option (List ℕ)) (result : Result ℕ Fault) : Type 0 where
  pub written : IsWritten (IsLocatedText r shown text json) before after result
  pub refused : IfErr result (IsUnlocatedFor r shown text)
  pub unread : IsUnlocated r shown text → result ≡ Err NoSuchPosition

-- a command is answered from tables of a game, from the rest of the input, the output before and the output after
unfoldable pub IsAnsweredFromTables : GameSpec → TableCommand → Option (List ℕ) → Option (List ℕ) → Option (List ℕ) → Result ℕ Fault → Type 0
IsAnsweredFromTables g (Solve json) input before after result = IsSolvedBy g.rules json before after result
IsAnsweredFromTables g (Explore position question) input before after result = IsExplored g position question before after result
IsAnsweredFromTables g (Filter question) input before after result = IsFiltered g question input before after result
IsAnsweredFromTables g (Page request) input before after result = IsPagedBy g request before after result
IsAnsweredFromTables g (At tier index json) input before after result =
    IsPlaced g.rules g.shown g.move_shown tier index json before after result
IsAnsweredFromTables g (Find search) input before after result = AreFoundBy g search (IsUnsearched g.rules search.tier) before after result
IsAnsweredFromTables g (Counts request) input before after result =
    IsTold (IsCountsOf g.rules request) (IsUnsearched g.rules None) before after result
IsAnsweredFromTables g (Longest reached limit json) input before after result =
    IsTold (IsLongestOf g.rules g.shown g.move_shown reached limit json) (IsUnsearched g.rules None) before after result
IsAnsweredFromTables g Analyse input before after result = IsAnalysedBy g.rules before after result
IsAnsweredFromTables g (Play request) input before after result = IsPlayed g.rules g.shown g.move_shown g.picture request input before after result

-- a command about a game is answered
unfoldable pub IsAnswered : GameSpec → GameCommand → Option (List ℕ) → Option (List ℕ) → Option (List ℕ) → Result ℕ Fault → Type 0
IsAnswered g (FromTables command) input before after result = IsAnsweredFromTables g command input before after result
IsAnswered g (Ask request) input before after result = IsAskedFrom request g 0 (ready_text request.ready) input before after result
IsAnswered g (Locate position json) input before after result = IsLocatedBy g.rules g.shown position.now json before after result
IsAnswered g (Check folder json) input before after result = IsCheckedBy g.rules unknown_texts json before after result
IsAnswered g _ input before after result = Unit {0}

-- a command about a game is answered, `ask` from where a service is that has this at hand
abbrev pub IsAnsweredWith : GameSpec → GameCommand → Service → Option (List ℕ) → Option (List ℕ) → Option (List ℕ) → Result ℕ Fault → Type 0
IsAnsweredWith g (Ask request) s input before after result = IsAskedWith request g s input before after result
IsAnsweredWith g command s input before after result = IsAnswered g command input before after result

-- the same up to a line that names a game: if it comes to another game, then however it goes on there, that is how it goes on
unfoldable pub IsAnsweredIn : GameSpec → GameCommand → Service → Service → Option (List ℕ) → Option (List ℕ) → Option (List ℕ) → Option (List ℕ) → Result Ended Fault → Type 0
IsAnsweredIn g (Ask request) old new input left before after result = IsAskedIn request g old new input left before after result
IsAnsweredIn g command old new input left before after result =
    (answer : Result ℕ Fault) × IsAnswered g command input before after answer × (result ≡ done_of answer)

-- a command about a game is answered; if there is no such game, that is the fault
abbrev pub IsAnsweredFor : Option GameSpec → GameCommand → Option (List ℕ) → Option (List ℕ) → Option (List ℕ) → Result ℕ Fault → Type 0
IsAnsweredFor None command input before after result = (result ≡ Err NoSuchGame) × Keeps before after
IsAnsweredFor (Some g) command input before after result = IsAnswered g command input before after result

-- a request is answered
abbrev pub IsDone : Request → Option (List ℕ) → Option (List ℕ) → Option (List ℕ) → Result ℕ Fault → Type 0
IsDone (Names all form) input before after result = IsListed all form before after result
IsDone (Game request) input before after result =
    IsAnsweredFor (option_map spec_of (game_of_name request.game.now)) request.command input before after result
IsDone (AllGames engine) input before after result = IsEveryGame before after result
IsDone (Sheet request) input before after result = IsSheeted request input before after result
IsDone _ input before after result = Unit {0}

-- the status that a line ends with: 1 after a fault
abbrev pub status_of : Result ℕ Fault → ℕ
status_of (Ok status) = status
status_of (Err fault) = 1

-- a request is answered, and the status shows with which result
abbrev pub IsRun : Request → Option (List ℕ) → Option (List ℕ) → Option (List ℕ) → ℕ → Type 0
IsRun request input before after status = (result : Result ℕ Fault) × IsDone request input before after result × (status ≡ status_of result)
