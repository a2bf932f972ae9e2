use Rattle.std.specs.Prelude.{◌*◌}
use Rattle.gm_tactix.proofs.Lower.{false, sym, ap, ◌∙◌, board_game, tactix, counters_of}
use Rattle.gm_tactix.specs.laws.CounterMaskFacts.{counters_length}
use Rattle.gm_pieces.specs.Common.{least_index as least_index_of}
use Rattle.gm_tactix.proofs.BeforeSteps.{taken_room, taken_more}
use Rattle.gm_tactix.proofs.parents.put_before.Goals as goal

pub put-requires : goal.put-requires
put-requires c =
    let s = c.args.side in
    taken_room s c.args.tier (counters_of (s * s) c.args.counters) c.requires.low c.requires.high (counters_length (s * s) c.args.counters) false
    c.args.number c.args.list.now.items (sym c.was_taken.ensures ∙ c.if-was_taken.true) (c.requires.before false)

pub returns-then-was_taken : goal.returns-then-was_taken
returns-then-was_taken c = λ misere.
    let s = c.args.side in
    taken_more s c.args.tier (counters_of (s * s) c.args.counters) c.requires.low c.requires.high (counters_length (s * s) c.args.counters) misere
    c.args.number c.least_index.result c.args.list.now.items c.put.new.list.items (sym c.was_taken.ensures ∙ c.if-was_taken.true)
    (c.least_index.ensures ∙ ap (least_index_of (board_game (tactix s misere))) c.given_back.ensures.board) c.put.ensures (c.requires.before misere)
