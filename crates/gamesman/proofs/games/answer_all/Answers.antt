use Rattle.gamesman.proofs.Lower.{◌<◌, List, ℕ, Option, Result, Ok, Err, Fault, OutputFailed, arith}
use Rattle.gamesman.specs.Games.{spec_of}
use Rattle.gamesman.proofs.Services.{from_nothing, ended, goes_on, only_ask, failed, gives_up}
use Rattle.gamesman.proofs.games.answer_all.Goals as goal

pub loop-turn-init : goal.loop-turn-init
loop-turn-init g c = record {
  asks = λ late. absurd (omega arith);
  goes = λ (end : Option (List ℕ)) (result : Result ℕ Fault) is.
      from_nothing (spec_of c.args.game) c.args.command c.new-service.result (g.I.Read.remaining c.args.input.now) (g.O.Write.contents c.args.output.now) end result
      c.new-service.ensures.lines c.new-service.ensures.unread c.new-service.ensures.front is;
}

pub returns-in-Ok-Done : goal.returns-in-Ok-Done
returns-in-Ok-Done g c =
    let after = g.O.Write.contents c.answer_for.new.output in
    c.loop-turn.invariant.goes after (Ok c.in-Ok-Done.status)
    (ended (spec_of c.loop-turn.now) c.args.command c.loop-turn.service c.answer_for.new.service (g.I.Read.remaining c.loop-turn.input)
    (g.I.Read.remaining c.answer_for.new.input) (g.O.Write.contents c.loop-turn.output) after c.in-Ok-Done.status c.answer_for.result
    (rw c.in-Ok-Done.field-0-is at c.in-Ok-Done.is) c.answer_for.ensures.answered)

pub returns-in-Err : goal.returns-in-Err
returns-in-Err g c =
    let after = g.O.Write.contents c.answer_for.new.output in
    c.loop-turn.invariant.goes after (Err c.in-Err.fault)
    (failed (spec_of c.loop-turn.now) c.args.command c.loop-turn.service c.answer_for.new.service (g.I.Read.remaining c.loop-turn.input)
    (g.I.Read.remaining c.answer_for.new.input) (g.O.Write.contents c.loop-turn.output) after c.in-Err.fault c.answer_for.result c.in-Err.is
    c.answer_for.ensures.answered)

pub loop-turn-preserved : goal.loop-turn-preserved
loop-turn-preserved g c =
    let now = spec_of c.loop-turn.now in
    let input = g.I.Read.remaining c.loop-turn.input in
    let left = g.I.Read.remaining c.answer_for.new.input in
    let before = g.O.Write.contents c.loop-turn.output in
    let after = g.O.Write.contents c.answer_for.new.output in
    let same = rw c.in-Ok-Game.field-0-is at c.in-Ok-Game.is in
    record {
      asks = λ late. only_ask now c.args.command c.loop-turn.service c.answer_for.new.service input left before after c.in-Ok-Game.next c.answer_for.result same
          c.answer_for.ensures.answered;
      goes = λ (end : Option (List ℕ)) (result : Result ℕ Fault) rest. c.loop-turn.invariant.goes end result
          (goes_on now c.args.command c.loop-turn.service c.answer_for.new.service input left before after c.in-Ok-Game.next c.answer_for.result same
          c.answer_for.ensures.answered end result rest);
    }

pub returns : goal.returns
returns g c =
    let after = g.O.Write.contents c.loop-turn.output in
    let late : 0 < c.loop-turn.turn = omega arith in
    c.loop-turn.invariant.goes after (Err OutputFailed)
    (gives_up (spec_of c.loop-turn.now) c.args.command c.loop-turn.service (g.I.Read.remaining c.loop-turn.input) after (c.loop-turn.invariant.asks late))
