use Rattle.gamesman.proofs.Lower.{◌<◌, ℕ, List, Option, Result, Fault}
use Rattle.gamesman.specs.Games.{spec_of}
use Rattle.gamesman.specs.Answers.{IsAnswered, IsAnsweredWith}
use Rattle.gamesman.proofs.Services.{IsAsk}
use Rattle.gamesman.proofs.games.answer_all.Given as goal

abbrev pub invariant-loop-turn : goal.invariant-loop-turn
invariant-loop-turn g l = record {
  asks : 0 < l.turn → IsAsk l.command;
  goes : (end : Option (List ℕ)) (result : Result ℕ Fault)
      → IsAnsweredWith (spec_of l.now) l.command l.service (g.I.Read.remaining l.input) (g.O.Write.contents l.output) end result
      → IsAnswered (spec_of l.fn.game) l.command (g.I.Read.remaining l.fn.input) (g.O.Write.contents l.fn.output) end result;
}
