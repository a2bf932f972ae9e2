-- How a command about a game ends: with a status, or at another game.
use Rattle.std.specs.Prelude.{ℕ, Result, Ok, Err}
use Rattle.gamesman.specs.declared.fault.Fault.{Fault}
use Rattle.gamesman.specs.declared.service.Ended.{Ended}
use Rattle.gamesman.specs.declared.service.Ended.TheVariants.{Done}

-- a command that goes on with no other game
abbrev pub done_of : Result ℕ Fault → Result Ended Fault
done_of (Ok status) = Ok (Done status)
done_of (Err fault) = Err fault
