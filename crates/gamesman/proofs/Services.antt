-- A command about a game as a service has it: from a service that has nothing at hand, and up to a line that names a game.
use Rattle.gamesman.proofs.Lower.{◌≡◌, ℕ, List, [], Option, None, Some, Result, Ok, Err, refl, sym, subst, ◌∙◌, GameSpec, Fault, OutputFailed}
use Rattle.std.specs.Global.{Vec}
use Rattle.std.specs.Io.KnownBytes.{prepend_known}
use Rattle.gm_json.specs.inner.Feeds.{unread, ahead}
use Rattle.gm_command.specs.declared.names.GameName.{GameName}
use Rattle.gm_command.specs.declared.requests.AskRequest.{AskRequest}
use Rattle.gm_command.specs.declared.requests.GameCommand.{GameCommand}
use Rattle.gm_command.specs.declared.requests.GameCommand.TheVariants.{FromTables, Ask, Locate, Check, Naming}
use Rattle.gamesman.specs.declared.service.Ended.{Ended}
use Rattle.gamesman.specs.declared.service.Ended.TheVariants.{Done, Game}
use Rattle.gamesman.specs.declared.service.Service.{Service}
use Rattle.gamesman.specs.Games.{spec_of}
use Rattle.gamesman.specs.Asks.{IsAskedFrom, IsAskedIn, front_text, ready_text}
use Rattle.gamesman.specs.Answers.{IsAnswered, IsAnsweredWith, IsAnsweredIn}
use Rattle.gamesman.specs.inner.Services.{done_of}
use Rattle.gamesman.proofs.Parts.{front_cut, appends_none}

-- ---- a service that has nothing at hand
nothing_ahead : (input : Option (List ℕ)) → prepend_known [] input ≡ input
nothing_ahead None = refl
nothing_ahead (Some bytes) = refl

asked_from_nothing : (request : AskRequest) (g : GameSpec) (lines : ℕ) (bytes : List ℕ) (front : Option (Vec ℕ)) (input before after : Option (List ℕ)) (result : Result ℕ Fault)
    → lines ≡ 0 → bytes ≡ [] → front ≡ None → IsAskedFrom request g lines (front_text request.ready front) (prepend_known bytes input) before after result
    → IsAskedFrom request g 0 (ready_text request.ready) input before after result
asked_from_nothing request g lines bytes front input before after result zero none first is =
    subst (λ (i : Option (List ℕ)). IsAskedFrom request g 0 (ready_text request.ready) i before after result) (nothing_ahead input)
    (subst (λ (o : Option (Vec ℕ)). IsAskedFrom request g 0 (front_text request.ready o) (prepend_known [] input) before after result) first
    (subst (λ (bs : List ℕ). IsAskedFrom request g 0 (front_text request.ready front) (prepend_known bs input) before after result) none
    (subst (λ (n : ℕ). IsAskedFrom request g n (front_text request.ready front) (prepend_known bytes input) before after result) zero is)))

pub from_nothing : (g : GameSpec) (command : GameCommand) (s : Service) (input before after : Option (List ℕ)) (result : Result ℕ Fault) → s.feed.lines ≡ 0 → unread s.feed ≡ []
    → s.front ≡ None → IsAnsweredWith g command s input before after result → IsAnswered g command input before after result
unfolding IsAnswered
from_nothing g (Ask request) s input before after result zero none first is =
    asked_from_nothing request g s.feed.lines (unread s.feed) s.front input before after result zero none first is
from_nothing g (FromTables command) s input before after result zero none first is = is
from_nothing g (Locate position json) s input before after result zero none first is = is
from_nothing g (Check folder json) s input before after result zero none first is = is
from_nothing g Naming s input before after result zero none first is = tt

-- ---- a command that goes on with no other game
ok_of_done : (status : ℕ) (answer : Result ℕ Fault) → Ok (Done status) ≡ done_of answer → answer ≡ Ok status
ok_of_done status (Ok s) e = cc
ok_of_done status (Err fault) e = absurd (cc)

no_game_done : (game : GameName) (answer : Result ℕ Fault) → Ok (Game game) ≡ done_of answer → ⊥
no_game_done game (Ok s) e = absurd (cc)
no_game_done game (Err fault) e = absurd (cc)

err_of_done : (fault : Fault) (answer : Result ℕ Fault) → Err fault ≡ done_of answer → answer ≡ Err fault
err_of_done fault (Ok s) e = absurd (cc)
err_of_done fault (Err f) e = cc

-- ---- the end of a command, and how it goes on
pub ended : (g : GameSpec) (command : GameCommand) (old new : Service) (input left before after : Option (List ℕ)) (status : ℕ) (r : Result Ended Fault) → r ≡ Ok (Done status)
    → IsAnsweredIn g command old new input left before after r → IsAnsweredWith g command old input before after (Ok status)
unfolding IsAnsweredIn
ended g (Ask request) old new input left before after status r at is = subst (λ (x : Result Ended Fault). IsAskedIn request g old new input left before after x) at is
ended g command old new input left before after status r at (answer, is, same) =
    subst (λ (x : Result ℕ Fault). IsAnswered g command input before after x) (ok_of_done status answer (sym at ∙ same)) is

pub goes_on : (g : GameSpec) (command : GameCommand) (old new : Service) (input left before after : Option (List ℕ)) (game : GameName) (r : Result Ended Fault) → r ≡ Ok (Game game)
    → IsAnsweredIn g command old new input left before after r → (end : Option (List ℕ)) (result : Result ℕ Fault)
    → IsAnsweredWith (spec_of game) command new left after end result → IsAnsweredWith g command old input before end result
unfolding IsAnsweredIn
goes_on g (Ask request) old new input left before after game r at is end result rest =
    subst (λ (x : Result Ended Fault). IsAskedIn request g old new input left before after x) at is end result rest
goes_on g command old new input left before after game r at (answer, is, same) end result rest = absurd (no_game_done game answer (sym at ∙ same))

pub failed : (g : GameSpec) (command : GameCommand) (old new : Service) (input left before after : Option (List ℕ)) (fault : Fault) (r : Result Ended Fault) → r ≡ Err fault
    → IsAnsweredIn g command old new input left before after r → IsAnsweredWith g command old input before after (Err fault)
unfolding IsAnsweredIn
failed g (Ask request) old new input left before after fault r at is = subst (λ (x : Result Ended Fault). IsAskedIn request g old new input left before after x) at is
failed g command old new input left before after fault r at (answer, is, same) =
    subst (λ (x : Result ℕ Fault). IsAnswered g command input before after x) (err_of_done fault answer (sym at ∙ same)) is

-- ---- only `ask` goes on
abbrev pub IsAsk : GameCommand → Type 0
IsAsk (Ask request) = Unit {0}
IsAsk _ = ⊥

pub only_ask : (g : GameSpec) (command : GameCommand) (old new : Service) (input left before after : Option (List ℕ)) (game : GameName) (r : Result Ended Fault) → r ≡ Ok (Game game)
    → IsAnsweredIn g command old new input left before after r → IsAsk command
unfolding IsAnsweredIn
only_ask g (Ask request) old new input left before after game r at is = tt
only_ask g command old new input left before after game r at (answer, is, same) = absurd (no_game_done game answer (sym at ∙ same))

-- it ends if there have been too many games
pub gives_up : (g : GameSpec) (command : GameCommand) (s : Service) (input o : Option (List ℕ)) → IsAsk command → IsAnsweredWith g command s input o o (Err OutputFailed)
gives_up g (Ask request) s input o asks =
    front_cut request g s.feed.lines (front_text request.ready s.front) (ahead s.feed input) o o OutputFailed tt ([], front_text request.ready s.front, refl, appends_none o)
gives_up g command s input o asks = absurd asks
