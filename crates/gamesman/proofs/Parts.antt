-- The parts of a service that goes on from game to game: the last, and one more of them.
use Rattle.gamesman.proofs.Lower.{◌≡◌, ◌+◌, ◌∷◌, ℕ, List, [], Option, None, Some, Result, Ok, Err, refl, sym, subst, inl, inr, append-nil, GameSpec, Fault, IsUnbuilt}
use Rattle.std.proofs.Common.{string_bytes}
use Rattle.std.specs.Result.{IsErrAnd}
use Rattle.std.specs.Io.KnownBytes.{Appends, Consumes, Keeps}
use Rattle.gm_tiers.specs.Orders.{IsTierOrder}
use Rattle.gm_play.specs.Sessions.{AppendsPart}
use Rattle.gm_json.specs.Asking.{IsServed, IsServiceBroken, IsServiceUnread}
use Rattle.gm_json.specs.Turns.{IsTurnedTo}
use Rattle.gm_json.specs.declared.turn.Turn.{Turn}
use Rattle.gm_json.specs.declared.ask_error.AskError.{AskError}
use Rattle.gm_command.specs.Names.{game_of_name}
use Rattle.gm_command.specs.declared.names.GameName.{GameName}
use Rattle.gm_command.specs.declared.requests.AskRequest.{AskRequest}
use Rattle.gamesman.specs.Games.{spec_of}
use Rattle.gamesman.specs.Outputs.{IsOutputFault}
use Rattle.gamesman.specs.declared.service.Ended.{Ended}
use Rattle.gamesman.specs.declared.service.Service.{Service}
use Rattle.gamesman.specs.Asks.{IsAskedFrom, IsAskedWith, IsAskedIn, IsFaultOf, Says, game_after, turn_answer}

module _ (asked : AskRequest) (g : GameSpec) (earlier : ℕ) (front : List ℕ) (input start end : Option (List ℕ)) where
  -- the tables of the game are not built
  pub unbuilt_asked : (fault : Fault) → IsUnbuilt g.rules g.rules.initial.tier fault → Keeps start end → IsAskedFrom asked g earlier front input start end (Err fault)
  unbuilt_asked fault is kept = ([], inl (inr is, kept))

  -- what comes first is not written
  pub front_cut : (fault : Fault) → IsOutputFault fault → AppendsPart start end front → IsAskedFrom asked g earlier front input start end (Err fault)
  front_cut fault is part = ([], inr (inl (is, part)))

  module _ (tiers : List ℕ) (order : IsTierOrder g.rules tiers) (left now : Option (List ℕ)) (ready : Appends start now front) where
    -- all lines are answered
    pub all_asked : IsServed (Says asked g earlier front tiers) input left now end → IsAskedFrom asked g earlier front input start end (Ok 0)
    all_asked served = ([], (refl, record { left = left; between = now; tiers = tiers; order = order; ready = ready; served = served }))

    -- the service ends by an error
    pub error_asked : (error : AskError) (fault : Fault) → IsFaultOf error fault → IsServiceBroken (Says asked g earlier front tiers) error input left now end
        → IsAskedFrom asked g earlier front input start end (Err fault)
    error_asked error fault is broken =
        ([], inr (inr (error, is, record { left = left; between = now; tiers = tiers; order = order; ready = ready; broken = broken })))

    -- a part up to a line that names a game, and what comes after it
    pub one_more : (turn : Turn) (n : ℕ) (between : Option (List ℕ)) (result : Result ℕ Fault) → IsTurnedTo (Says asked g earlier front tiers) earlier n turn input left now between
        → IsAskedFrom asked (game_after g turn) (earlier + n) (turn_answer turn) left between end result → IsAskedFrom asked g earlier front input start end result
    one_more turn n between result turned (turns, parts) =
        (turn ∷ turns, (n, left, between, record { between = now; tiers = tiers; order = order; ready = ready; turned = turned }, parts))

-- the line names no game: the service goes on with the game before
pub same_game : (asked : AskRequest) (g : GameSpec) (earlier : ℕ) (turn : Turn) (left between end : Option (List ℕ)) (result : Result ℕ Fault)
    → game_of_name (string_bytes turn.name) ≡ None → IsAskedFrom asked g earlier turn.unknown.items left between end result
    → IsAskedFrom asked (game_after g turn) earlier (turn_answer turn) left between end result
same_game asked g earlier turn left between end result none rest =
    subst (λ (o : Option GameName). IsAskedFrom asked (elim o [ None ↦ g | Some game ↦ spec_of game ]) earlier
    (elim o [ None ↦ turn.unknown.items | Some game ↦ turn.there.items ]) left between end result) (sym none) rest

-- it names this game
pub other_game : (asked : AskRequest) (g : GameSpec) (earlier : ℕ) (turn : Turn) (game : GameName) (left between end : Option (List ℕ)) (result : Result ℕ Fault)
    → game_of_name (string_bytes turn.name) ≡ Some game → IsAskedFrom asked (spec_of game) earlier turn.there.items left between end result
    → IsAskedFrom asked (game_after g turn) earlier (turn_answer turn) left between end result
other_game asked g earlier turn game left between end result some rest =
    subst (λ (o : Option GameName). IsAskedFrom asked (elim o [ None ↦ g | Some now ↦ spec_of now ]) earlier
    (elim o [ None ↦ turn.unknown.items | Some now ↦ turn.there.items ]) left between end result) (sym some) rest

-- a fault that is passed on
pub err_asked : (asked : AskRequest) (g : GameSpec) (old new : Service) (input left before after : Option (List ℕ)) (result : Result Ended Fault) (fault : Fault)
    → IsErrAnd result (λ f. f ≡ fault) → IsAskedWith asked g old input before after (Err fault) → IsAskedIn asked g old new input left before after result
err_asked asked g old new input left before after (Ok ended) fault passed is = absurd passed
err_asked asked g old new input left before after (Err f) fault passed is =
    subst (λ (x : Fault). IsAskedWith asked g old input before after (Err x)) (sym passed) is

-- ---- nothing is read, and nothing written
pub appends_none : (o : Option (List ℕ)) → Appends o o []
appends_none None = tt
appends_none (Some bytes) = sym (append-nil bytes)

consumes_none : (input : Option (List ℕ)) → Consumes input input []
consumes_none None = tt
consumes_none (Some bytes) = refl

pub unread_nothing : (Says : List ℕ → ℕ → List ℕ → Type 0) (input o : Option (List ℕ)) → IsServiceUnread Says input input o o
unread_nothing Says input o = record {
  bytes = [];
  lines = [];
  begun = [];
  text = [];
  reads = consumes_none input;
  parts = λ more. refl;
  answers = refl;
  writes = appends_none o;
}
