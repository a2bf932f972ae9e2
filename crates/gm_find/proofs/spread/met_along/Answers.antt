use Rattle.gm_find.proofs.Lower.{◌≡◌, ◌↔◌, ℕ, refl, subst, arith, Contains}
use Rattle.gm_play.specs.BestMoves.{IsBestMove}
use Rattle.gm_find.specs.Spreading.{IsMet}
use Rattle.gm_find.proofs.Spreading.{walk_begins, walk_goes_on, walk_ends}
use Rattle.gm_find.proofs.spread.met_along.Goals.{else-loop-test, then-loop-test+in_default}
use Rattle.gm_find.proofs.spread.met_along.Goals as goal

pub loop-init : goal.loop-init
loop-init g c =
    walk_begins g.G.Game.rules c.args.known.now.position c.push.new.self.items
    (rw (c.in_ok-push.ensures.items, c.new-met.ensures.items, c.canonical.ensures) refl)

pub loop-preserved : goal.loop-preserved
loop-preserved g c =
    let r = g.G.Game.rules in
    let here = c.loop.here.position in
    walk_goes_on r c.args.known.now.position here c.play-here.result.position c.loop.counter c.in-Some.number c.loop.met.items c.push-in-loop.new.self.items
    c.loop.invariant (subst (IsBestMove r here) c.in-Some.is c.best_move.ensures) c.play-here.ensures
    (rw (c.in_ok-push-2.ensures.items, c.canonical-in-loop.ensures) refl)

pub returns : goal.returns
returns g c q =
    let r = g.G.Game.rules in
    let p = c.args.known.now.position in
    let low = c.loop.auto.counter-end in
    elim c.loop-test.branch [
      | else-loop-test w ↦ (
          let over = w.loop-test.false in
          let e : c.loop.counter ≡ c.args.moves = omega arith in
          subst (λ (k : ℕ). Contains c.loop.met.items q ↔ IsMet r p k q) e (c.loop.invariant.exact q))
      | then-loop-test+in_default w ↦
          walk_ends r p c.loop.here.position c.loop.counter c.args.moves c.loop.met.items c.loop.invariant (omega arith)
          (subst (IsBestMove r c.loop.here.position) w.in_default.is w.best_move.ensures) q
    ]
