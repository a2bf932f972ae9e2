use Rattle.gm_find.proofs.Lower.{◌-◌, ◌∷◌, sym, subst, arith, Position}
use Rattle.std.proofs.Common.{◌*◌}
use Rattle.gm_play.specs.BestMoves.{IsBestMove}
use Rattle.gm_find.specs.inner.Tallies.{HasEnd}
use Rattle.gm_find.proofs.Turns.{end_step, after_more, turn_more, small_step}
use Rattle.gm_find.proofs.along.+turns.Goals as goal

pub tally_after-tally_from-requires : goal.tally_after-tally_from-requires
tally_after-tally_from-requires g t c κs within =
    let r = g.G.Game.rules in
    let p = c.args.known.now.position in
    let best = subst (IsBestMove r p) c.in-Some.is c.best_move.ensures in
    let (more, end) = end_step r p c.in-Some.e c.args.left best c.requires.end in
    let there = subst (λ (q : Position). HasEnd r q (c.args.left - 1)) (sym c.play.ensures) end in
    let small = c.requires.small in
    let down = c.decreases in
    (omega arith, (within, (there, omega arith)))

pub tally_after-returns-in-Some-clause-along : goal.tally_after-returns-in-Some-clause-along
tally_after-returns-in-Some-clause-along g t c =
    let r = g.G.Game.rules in
    let p = c.args.known.now.position in
    let best = subst (IsBestMove r p) c.in-Some.is c.best_move.ensures in
    let (ts, on, tallied) = c.tally_from.ensures.along in
    (ts, after_more r p c.play.result.position c.in-Some.e ts best c.play.ensures on, tallied)

pub tally_from-tally_after-after-requires : goal.tally_from-tally_after-after-requires
tally_from-tally_after-after-requires g t c κs within =
    let r = g.G.Game.rules in
    let p = c.args.known.now.position in
    let best = subst (IsBestMove r p) c.in-Some.is c.best_move.ensures in
    let (more, end) = end_step r p c.in-Some.m c.args.left best c.requires.end in
    let there = subst (λ (q : Position). HasEnd r q (c.args.left - 1)) (sym c.play.ensures) end in
    let small = c.requires.small in
    let down = c.decreases in
    (omega arith, (within, (there, omega arith)))

pub tally_from-returns-in-Some-clause-along : goal.tally_from-returns-in-Some-clause-along
tally_from-returns-in-Some-clause-along g t c =
    let r = g.G.Game.rules in
    let p = c.args.known.now.position in
    let best = subst (IsBestMove r p) c.in-Some.is c.best_move.ensures in
    let own = c.count_tries.result in
    let (ts, after, tallied) = c.tally_after-after.ensures.along in (
      own ∷ ts,
      turn_more r p c.play.result.position c.in-Some.m own ts best c.play.ensures c.count_tries.ensures.number after,
      c.with_turn.ensures.all ts tallied,
    )

pub tally_from-returns-in-Some-clause-small : goal.tally_from-returns-in-Some-clause-small
tally_from-returns-in-Some-clause-small g t c =
    let r = g.G.Game.rules in
    let p = c.args.known.now.position in
    let best = subst (IsBestMove r p) c.in-Some.is c.best_move.ensures in
    let (more, end) = end_step r p c.in-Some.m c.args.left best c.requires.end in
    small_step c.count_tries.result c.args.left c.with_turn.result.total more c.count_tries.ensures.few
    (c.with_turn.ensures.small (128 * (c.args.left - 1)) c.tally_after-after.ensures.small)
