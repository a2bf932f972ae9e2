use Rattle.gamesman.proofs.Lower.{◌≡◌, ◌+◌, List, ℕ, Option, Result, Ok, Err, Some, None, Fault, InputFailed, sym, ap, subst, ◌∙◌, game_spec, Appends, AppendsPart}
use Rattle.std.proofs.Common.{string_bytes}
use Rattle.gm_tiers.specs.Orders.{IsTierOrder}
use Rattle.gm_json.specs.inner.Feeds.{ahead}
use Rattle.gm_json.specs.declared.ask_error.AskError.TheVariants.{ReadFailed}
use Rattle.gm_command.specs.Names.{game_of_name}
use Rattle.gamesman.specs.Games.{spec_of}
use Rattle.gamesman.specs.Asks.{IsAskedFrom, Says, front_text}
use Rattle.gamesman.proofs.Reached.{order_closed}
use Rattle.gamesman.proofs.Parts.{front_cut, all_asked, error_asked, one_more, same_game, other_game, err_asked, unread_nothing}
use Rattle.gamesman.proofs.service.serve.Goals as goal

pub invariant_of-tables : goal.invariant_of-tables
invariant_of-tables g c = record {
  closed = order_closed g.G.Game.rules c.args.built.now.tables c.args.built.now.order g.G.Game.rules.initial.tier
      c.requires.order c.requires.held;
}

pub returns-in_err-write_front : goal.returns-in_err-write_front
returns-in_err-write_front g c =
    let spec = game_spec g.G.Game.rules g.G.Shown.shown g.G.Shown.move_shown g.G.Pictured.picture in
    let s = c.args.service.now in
    let input = g.I.Read.remaining c.args.input.now in
    let before = g.O.Write.contents c.args.output.now in
    let after = g.O.Write.contents c.write_front.new.output in
    err_asked c.args.asked spec s s input input before after c.from_residual.result c.in_err-write_front.field-0.0 c.from_residual.ensures.1
    (front_cut c.args.asked spec s.feed.lines (front_text c.args.asked.ready s.front) (ahead s.feed input) before after _
    c.in_err-write_front.ensures.fault c.in_err-write_front.ensures.err)

pub loop-line-init : goal.loop-line-init
loop-line-init g c =
    (front_text c.args.asked.ready c.args.service.now.front, g.O.Write.contents c.args.output.now, c.in_ok-write_front.ensures.ok, λ end result rest. rest)

pub returns-in-Ok-None : goal.returns-in-Ok-None
returns-in-Ok-None g c =
    let spec = game_spec g.G.Game.rules g.G.Shown.shown g.G.Shown.move_shown g.G.Pictured.picture in
    let (front, start, ready, goes) = c.loop-line.invariant in
    let s = c.loop-line.service in
    let end = g.O.Write.contents c.ask_until.new.output in
    let order = subst (IsTierOrder g.G.Game.rules) (sym c.tiers-tiers.ensures.value) c.requires.order in
    goes end (Ok 0) (all_asked c.args.asked spec s.feed.lines front (ahead s.feed (g.I.Read.remaining c.loop-line.input)) start end c.tiers-tiers.result.now order
    (g.I.Read.remaining c.ask_until.new.input) (g.O.Write.contents c.loop-line.output) ready (c.in-Ok-None.ensures.all c.in-Ok-None.field-0-is))

pub returns-in-Err : goal.returns-in-Err
returns-in-Err g c =
    let spec = game_spec g.G.Game.rules g.G.Shown.shown g.G.Shown.move_shown g.G.Pictured.picture in
    let (front, start, ready, goes) = c.loop-line.invariant in
    let s = c.loop-line.service in
    let end = g.O.Write.contents c.ask_until.new.output in
    let order = subst (IsTierOrder g.G.Game.rules) (sym c.tiers-tiers.ensures.value) c.requires.order in
    goes end (Err c.from.result) (error_asked c.args.asked spec s.feed.lines front (ahead s.feed (g.I.Read.remaining c.loop-line.input)) start end c.tiers-tiers.result.now order
    (g.I.Read.remaining c.ask_until.new.input) (g.O.Write.contents c.loop-line.output) ready c.in-Err.error c.from.result c.from.ensures c.in-Err.ensures.err)

pub returns-in-Some : goal.returns-in-Some
returns-in-Some g c end result rest =
    let spec = game_spec g.G.Game.rules g.G.Shown.shown g.G.Shown.move_shown g.G.Pictured.picture in
    let (front, start, ready, goes) = c.loop-line.invariant in
    let s = c.loop-line.service in
    let asked = c.args.asked in
    let turn = c.in-Ok-Some.turn in
    let game = c.in-Some.game in
    let between = g.O.Write.contents c.ask_until.new.output in
    let left = ahead c.ask_until.new.feed (g.I.Read.remaining c.ask_until.new.input) in
    let order = subst (IsTierOrder g.G.Game.rules) (sym c.tiers-tiers.ensures.value) c.requires.order in
    let (n, later, turned) = rw c.in-Ok-Some.field-0-is at c.in-Ok-Some.ensures.turned in
    let named : game_of_name (string_bytes turn.name) ≡ Some game = sym (c.game_named.ensures ∙ ap game_of_name c.as_str.ensures.value) ∙ c.in-Some.is in
    goes end result (one_more asked spec s.feed.lines front (ahead s.feed (g.I.Read.remaining c.loop-line.input)) start end c.tiers-tiers.result.now order
    left (g.O.Write.contents c.loop-line.output) ready turn n between result turned
    (other_game asked spec (s.feed.lines + n) turn game left between end result named
    (subst (λ (k : ℕ). IsAskedFrom asked (spec_of game) k turn.there.items left between end result) later rest)))

pub returns-in_err-put : goal.returns-in_err-put
returns-in_err-put g c =
    let spec = game_spec g.G.Game.rules g.G.Shown.shown g.G.Shown.move_shown g.G.Pictured.picture in
    let (front, start, ready, goes) = c.loop-line.invariant in
    let s = c.loop-line.service in
    let asked = c.args.asked in
    let turn = c.in-Ok-Some.turn in
    let between = g.O.Write.contents c.ask_until.new.output in
    let end = g.O.Write.contents c.put.new.output in
    let left = ahead c.ask_until.new.feed (g.I.Read.remaining c.ask_until.new.input) in
    let order = subst (IsTierOrder g.G.Game.rules) (sym c.tiers-tiers.ensures.value) c.requires.order in
    let (n, later, turned) = rw c.in-Ok-Some.field-0-is at c.in-Ok-Some.ensures.turned in
    let none : game_of_name (string_bytes turn.name) ≡ None = sym (c.game_named.ensures ∙ ap game_of_name c.as_str.ensures.value) ∙ c.in_default.is in
    let fault = c.in_err-put.field-0.0 in
    let part = subst (AppendsPart between end) c.as_slice.ensures.value c.in_err-put.ensures.err in
    let later_service = record s { feed = c.ask_until.new.feed } in
    err_asked asked spec c.args.service.now later_service (g.I.Read.remaining c.args.input.now) (g.I.Read.remaining c.ask_until.new.input)
    (g.O.Write.contents c.args.output.now) end
    c.from_residual-in_err-put.result fault c.from_residual-in_err-put.ensures.1
    (goes end (Err fault) (one_more asked spec s.feed.lines front (ahead s.feed (g.I.Read.remaining c.loop-line.input)) start end c.tiers-tiers.result.now order
    left (g.O.Write.contents c.loop-line.output) ready turn n between (Err fault) turned
    (same_game asked spec (s.feed.lines + n) turn left between end (Err fault) none
    (front_cut asked spec (s.feed.lines + n) turn.unknown.items left between end fault c.in_err-put.ensures.fault part))))

pub loop-line-preserved : goal.loop-line-preserved
loop-line-preserved g c =
    let spec = game_spec g.G.Game.rules g.G.Shown.shown g.G.Shown.move_shown g.G.Pictured.picture in
    let (front, start, ready, goes) = c.loop-line.invariant in
    let s = c.loop-line.service in
    let asked = c.args.asked in
    let turn = c.in-Ok-Some.turn in
    let between = g.O.Write.contents c.ask_until.new.output in
    let left = ahead c.ask_until.new.feed (g.I.Read.remaining c.ask_until.new.input) in
    let order = subst (IsTierOrder g.G.Game.rules) (sym c.tiers-tiers.ensures.value) c.requires.order in
    let (n, later, turned) = rw c.in-Ok-Some.field-0-is at c.in-Ok-Some.ensures.turned in
    let none : game_of_name (string_bytes turn.name) ≡ None = sym (c.game_named.ensures ∙ ap game_of_name c.as_str.ensures.value) ∙ c.in_default.is in (
      turn.unknown.items,
      between,
      subst (Appends between (g.O.Write.contents c.put.new.output)) c.as_slice.ensures.value c.in_ok-put.ensures.ok,
      λ (end : Option (List ℕ)) (result : Result ℕ Fault) rest. goes end result
          (one_more asked spec s.feed.lines front (ahead s.feed (g.I.Read.remaining c.loop-line.input)) start end c.tiers-tiers.result.now order
          left (g.O.Write.contents c.loop-line.output) ready turn n between result turned
          (same_game asked spec (s.feed.lines + n) turn left between end result none
          (subst (λ (k : ℕ). IsAskedFrom asked spec k turn.unknown.items left between end result) later rest))),
    )

pub returns : goal.returns
returns g c =
    let spec = game_spec g.G.Game.rules g.G.Shown.shown g.G.Shown.move_shown g.G.Pictured.picture in
    let (front, start, ready, goes) = c.loop-line.invariant in
    let s = c.loop-line.service in
    let input = ahead s.feed (g.I.Read.remaining c.loop-line.input) in
    let now = g.O.Write.contents c.loop-line.output in
    let tiers = c.tiers-tiers.result.now in
    let order = subst (IsTierOrder g.G.Game.rules) (sym c.tiers-tiers.ensures.value) c.requires.order in
    goes now (Err InputFailed) (error_asked c.args.asked spec s.feed.lines front input start now tiers order input now ready ReadFailed InputFailed tt
    (unread_nothing (Says c.args.asked spec s.feed.lines front tiers) input now))
