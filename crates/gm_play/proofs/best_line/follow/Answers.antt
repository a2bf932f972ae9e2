use Rattle.gm_play.proofs.Lower.{◌<◌, ◌≤◌, ℕ, List, ◌∷◌, [], sym, ap, subst, ◌∙◌, Contains, Position, IsBestMove, refl, length, length-append, arith}
use Rattle.gm_play.proofs.Walking.{begins, goes_on, fresh_push, line_is, ends_over, ends_cut, ends_again}
use Rattle.gm_play.proofs.best_line.follow.Goals as goal

pub returns-in-Some-before : goal.returns-in-Some-before
returns-in-Some-before g c =
    let best = subst (IsBestMove g.G.Game.rules c.loop-here.here.position) c.in-Some.is c.best_move.ensures in
    let low = subst (λ (n : ℕ). n < c.args.limit) (c.len.ensures ∙ c.loop-here.moves.ok.0) c.loop-here-test.true in
    let on = goes_on c.loop-here.invariant.0 c.in-Some.number _ g.met.G.Game.lawful best c.play-here.ensures low in
    let there = rw c.as_slice.ensures.value at c.in-Some-before.ensures in
    line_is {p = c.play-here.result.position} (rw (c.in_ok-push-2.ensures.items, c.in_ok-push-3.ensures.items) on)
    (rw c.in_ok-push-2.ensures.items (ends_again on c.loop-here.positions.items c.in-Some-before.first refl c.loop-here.invariant.1 there))

pub loop-here-preserved : goal.loop-here-preserved
loop-here-preserved g c =
    let best = subst (IsBestMove g.G.Game.rules c.loop-here.here.position) c.in-Some.is c.best_move.ensures in
    let low = subst (λ (n : ℕ). n < c.args.limit) (c.len.ensures ∙ c.loop-here.moves.ok.0) c.loop-here-test.true in
    let new = subst (λ (qs : List Position). Contains qs c.play-here.result.position → ⊥) c.as_slice.ensures.value c.in_default-before.ensures in
    rw (c.in_ok-push-2.ensures.items, c.in_ok-push-3.ensures.items) (
      goes_on c.loop-here.invariant.0 c.in-Some.number _ g.met.G.Game.lawful best c.play-here.ensures low,
      fresh_push c.loop-here.positions.items c.play-here.result.position c.loop-here.invariant.1 new,
    )

pub loop-here-init : goal.loop-here-init
loop-here-init g c = rw (c.in_ok-push.ensures.items, c.requires.0, c.requires.1)
    (begins g.G.Game.rules c.args.start.now.position c.args.limit c.args.start.now.legal)

pub returns-in_default : goal.returns-in_default
returns-in_default g c = line_is c.loop-here.invariant.0 (ends_over c.loop-here.invariant.0 c.loop-here.invariant.1
    (subst (IsBestMove g.G.Game.rules c.loop-here.here.position) c.in_default.is c.best_move.ensures))

pub returns-in-Some-primitive : goal.returns-in-Some-primitive
returns-in-Some-primitive g c = line_is c.loop-here.invariant.0 (ends_over c.loop-here.invariant.0 c.loop-here.invariant.1
    (λ none. (let e = sym none ∙ sym c.primitive.ensures ∙ c.in-Some-primitive.is in let z : ⊥ = cc in z)))

pub returns-in-None : goal.returns-in-None
returns-in-None g c = line_is c.loop-here.invariant.0 (ends_cut c.loop-here.invariant.0 c.loop-here.invariant.1 (sym c.primitive.ensures ∙ c.in-None.is)
    (subst (λ (n : ℕ). c.args.limit ≤ n) (c.len.ensures ∙ c.loop-here.moves.ok.0) c.loop-here-test.false))

pub play-here-requires : goal.play-here-requires
play-here-requires g c = (subst (IsBestMove g.G.Game.rules c.loop-here.here.position) c.in-Some.is c.best_move.ensures).1.best.there

pub loop-here-smaller : goal.loop-here-smaller
loop-here-smaller g c =
    let long = ap length c.in_ok-push-2.ensures.items ∙ length-append c.loop-here.moves.items (c.in-Some.number ∷ []) in
    let low = subst (λ (n : ℕ). n < c.args.limit) (c.len.ensures ∙ c.loop-here.moves.ok.0) c.loop-here-test.true in
    omega arith
