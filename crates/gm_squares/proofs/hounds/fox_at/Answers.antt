use Rattle.std.specs.Prelude.{◌≡◌, ◌+◌, ◌-◌, ◌<◌, ◌≤◌}
use Rattle.gm_pieces.specs.Common.{arith, bit_and, subst, trailing_zeros, w32}
use Rattle.gm_squares.specs.laws.HoundFacts.{IsPassed, passed_small, pass_up, pass_by, fox_is}
use Rattle.gm_squares.proofs.hounds.fox_at.Goals.{then-fox-rest, else-fox-rest}
use Rattle.gm_squares.proofs.hounds.fox_at.Goals as goal

pub overflow_add-fox : goal.overflow_add-fox
overflow_add-fox c = let s = passed_small _ _ _ _ c.loop-rest.invariant in let n = c.requires.number in omega (arith, s, n)

pub loop-rest-preserved : goal.loop-rest-preserved
loop-rest-preserved c =
    let left = bit_and c.loop-rest.rest (c.loop-rest.rest - 1) in
    elim c.if-fox-rest.branch [
      | then-fox-rest w ↦
          let t = w.if-fox-rest in
          let is = w.fox-is in
          let up : trailing_zeros w32 c.loop-rest.rest ≤ c.loop-rest.fox = omega (arith, t) in
          let e : c.loop-rest.fox + 1 ≡ c.if-fox-rest.fox = omega (arith, is) in
          subst (IsPassed c.args.hounds c.args.number left) e (pass_up _ _ _ _ c.loop-rest.invariant (omega arith) (omega arith) up)
      | else-fox-rest w ↦
          let t = w.if-fox-rest in
          let is = w.fox-is in
          let by : c.loop-rest.fox < trailing_zeros w32 c.loop-rest.rest = omega (arith, t) in
          let e : c.loop-rest.fox ≡ c.if-fox-rest.fox = omega (arith, is) in
          subst (IsPassed c.args.hounds c.args.number left) e (pass_by _ _ _ _ c.loop-rest.invariant (omega arith) (omega arith) by)
    ]

pub returns-clause-within : goal.returns-clause-within
returns-clause-within c =
    (fox_is c.args.hounds c.args.number c.loop-rest.rest c.loop-rest.fox c.loop-rest.invariant c.loop-rest-test.false (omega arith) c.requires.four
    c.requires.number).within

pub returns-clause-free : goal.returns-clause-free
returns-clause-free c =
    (fox_is c.args.hounds c.args.number c.loop-rest.rest c.loop-rest.fox c.loop-rest.invariant c.loop-rest-test.false (omega arith) c.requires.four
    c.requires.number).free

pub returns-clause-number : goal.returns-clause-number
returns-clause-number c =
    (fox_is c.args.hounds c.args.number c.loop-rest.rest c.loop-rest.fox c.loop-rest.invariant c.loop-rest-test.false (omega arith) c.requires.four
    c.requires.number).counted
