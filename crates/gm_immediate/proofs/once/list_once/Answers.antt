use Rattle.gm_immediate.proofs.Lower.{List, get_or, sym, subst, arith, Contains, Position, at}
use Rattle.std.proofs.lemmas.List.{take_all}
use Rattle.gm_game.specs.Children.{HasSame}
use Rattle.gm_table.proofs.Distinct.{no_repeats_to}
use Rattle.gm_immediate.proofs.OnceLemmas.{listed_old, listed_new}
use Rattle.gm_immediate.proofs.once.list_once.Goals.{then-not-is_among, else-not-is_among}
use Rattle.gm_immediate.proofs.once.list_once.Goals as goal

pub loop-p-preserved : goal.loop-p-preserved
loop-p-preserved c =
    let list = c.args.list.now in
    let once = c.loop-p.once.items in
    let marks = c.loop-p.marks in
    let i = c.loop-p.p-index in
    let p = get_or list i (at 0 0) in
    let inside = c.loop-p-test.true in
    elim c.if-not-is_among.branch [
      | then-not-is_among w ↦ (
          let new : Contains once p → ⊥ = λ h. (let none = w.if-not-is_among.true in
          let there = c.is_among.ensures.1 (subst (λ (ps : List Position). Contains ps p) (sym c.as_slice.ensures.value) h) in absurd (cc)) in
          let more = listed_new list once marks i (at 0 0) inside c.loop-p.invariant w.mark_of.result w.mark_of.ensures.value w.mark_of.ensures.within new in
          rw (w.once-is, w.push.ensures.items, w.marks-is) more)
      | else-not-is_among w ↦ (
          let there : Contains once p = subst (λ (ps : List Position). Contains ps p) c.as_slice.ensures.value (c.is_among.ensures.0 w.if-not-is_among.false) in
          rw (w.once-is, w.marks-is) (listed_old list once marks i (at 0 0) inside c.loop-p.invariant there))
    ]

pub returns-clause-same : goal.returns-clause-same
returns-clause-same c =
    let end = c.loop-p-test.false in
    subst (λ (ps : List Position). HasSame ps c.loop-p.once.items) (take_all c.loop-p.p-index c.args.list.now (omega arith)) c.loop-p.invariant.same

pub returns-clause-once : goal.returns-clause-once
returns-clause-once c = no_repeats_to c.loop-p.once.items c.loop-p.invariant.once_each
