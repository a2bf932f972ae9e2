use Rattle.gm_find.proofs.Lower.{inl, inr, refl, sym, subst, ◌↔◌, Contains, Position}
use Rattle.gm_find.specs.Spreading.{IsMet}
use Rattle.gm_find.specs.inner.Takings.{HasRoom, HasSome, IsOneMore}
use Rattle.gm_find.proofs.Spreading.{no_room, not_beside, may_be, taken_more, on_ok}
use Rattle.gm_find.proofs.spread.consider.Goals.{then-has_some, else-has_some}
use Rattle.gm_find.proofs.spread.consider.Goals as goal

pub returns-then-not-has_room : goal.returns-then-not-has_room
returns-then-not-has_room g c =
    let none : HasRoom c.args.per_move c.args.limit c.args.x c.args.taken.now → ⊥ = λ room. (let yes = c.has_room.ensures.1 room in let no = c.if-not-has_room.true in absurd (cc)) in
    (c.requires.taken, inr (no_room g.G.Game.rules c.args.per_move c.args.limit c.args.x c.args.taken.now c.requires.taken none, refl))

pub returns : goal.returns
returns g c =
    let r = g.G.Game.rules in
    let x = c.args.x in
    let t = c.args.taken.now in
    let along = c.in_ok-along.along.items in
    let exact : (q : Position) → Contains along q ↔ IsMet r x.position x.value.remoteness q =
    subst (λ (p : Position). (q : Position) → Contains along q ↔ IsMet r p x.value.remoteness q) c.requires.here c.in_ok-along.ensures in
    let room = c.has_room.ensures.0 (let no = c.if-not-has_room.false in cc) in
    elim c.if-has_some.branch [
      | then-has_some w ↦ (
          let some : HasSome t.own along = rw c.as_slice.ensures.value at (c.has_some.ensures.0 w.if-has_some.true) in
          rw (w.taken-is, w.done-is) (c.requires.taken, inr (not_beside r c.args.per_move c.args.limit x t c.requires.taken along exact some, refl)))
      | else-has_some w ↦ (
          let none : HasSome t.own along → ⊥ = λ some. (
          let yes = c.has_some.ensures.1 (rw (sym c.as_slice.ensures.value) at some) in
          let no = w.if-has_some.false in
          absurd (cc)) in
          let may = may_be r c.args.per_move c.args.limit x t c.requires.taken along exact room none in
          rw (w.taken-is, w.done-is) (on_ok w.take-done.result _ _
          (λ one. (
          let same : IsOneMore x along t _ = rw w.as_slice-else-has_some.ensures.value at one in
          (taken_more r c.args.per_move c.args.limit x t c.requires.taken along exact _ same, inl (may, same.found)))) w.take-done.ensures))
    ]
