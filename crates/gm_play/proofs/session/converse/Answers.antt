use Rattle.gm_play.proofs.Lower.{◌≡◌, ◌∙◌, ◌+◌, ◌≤◌, ◌<◌, ◌++◌, ◌∷◌, [], length, ℕ, arith, SESSION_BYTES, KEPT, Advice}
use Rattle.std.proofs.Common.{eq-eqb}
use Rattle.std.proofs.lemmas.Bool.{ne_eqb}
use Rattle.std.proofs.lemmas.Result.{on_ok_weaker, IfErr-weaker}
use Rattle.gm_play.proofs.Kept.{kept_push, kept_full}
use Rattle.gm_play.proofs.Parts.{passed}
use Rattle.gm_play.proofs.Talk.{starts, asks_next, ends, fails, goes_on, answers, read_fails, too_long, hears, input_ends, close_fails}
use Rattle.gm_play.proofs.session.converse.Goals.{then-byte-eq10+in_ok-say-2+in-Some-asked, else-byte-eq10+then-not-is_full, else-byte-eq10+else-not-is_full}
use Rattle.gm_play.proofs.session.converse.Goals as goal

one_below : (a b : ℕ) → a ≤ b → (a ≡ b → ⊥) → a + 1 ≤ b
one_below a b le ne = omega arith

pub returns-in_err-say-clause-err : goal.returns-in_err-say-clause-err
returns-in_err-say-clause-err g c k known =
    let h = c.turn-part.ensures k known in
    passed c.from_residual.result _ c.in_err-say.field-0.0 c.from_residual.ensures.1
    (fails (starts g.G.Game.rules g.G.Shown.shown g.G.Shown.move_shown k g.V.View.seen c.args.start.now.position c.args.first _ _)
    (c.as_slice.ensures.value ∙ h.0, h.1, h.2) _ _ c.in_err-say.ensures.err)

pub returns-in_default-clause-ok : goal.returns-in_default-clause-ok
returns-in_default-clause-ok g c k known =
    let h = c.turn-part.ensures k known in
    ends (starts g.G.Game.rules g.G.Shown.shown g.G.Shown.move_shown k g.V.View.seen c.args.start.now.position c.args.first _ _)
    (c.as_slice.ensures.value ∙ h.0, h.1, h.2) _ (rw c.in_default.is) c.in_ok-say.ensures.ok

pub loop-count-init : goal.loop-count-init
loop-count-init g c = record {
  few = omega arith;
  talk = λ (k : Advice) known. (
      let h = c.turn-part.ensures k known in
      rw c.new-line.ensures
      (asks_next (starts g.G.Game.rules g.G.Shown.shown g.G.Shown.move_shown k g.V.View.seen c.args.start.now.position c.args.first _ _)
      (c.as_slice.ensures.value ∙ h.0, h.1, h.2) _ c.in-Some.asked.position (rw c.in-Some.is) c.in_ok-say.ensures.ok));
}

pub returns-in-Ok-None-clause-ok : goal.returns-in-Ok-None-clause-ok
returns-in-Ok-None-clause-ok g c k known =
    let talk = c.loop-count.invariant.talk k known in
    let reads = rw c.in-Ok-None.field-0-is at c.in-Ok-None.ensures.ok in
    on_ok_weaker c.say-in-Ok-None.result
    (λ written. input_ends talk g.met.G.Shown.readable c.loop-count.asked.legal _ _ c.deref.ensures.0
    (c.as_slice-in-Ok-None.ensures.value ∙ c.close.ensures k talk.known) _ _ c.loop-count.invariant.few reads.0 reads.1 written)
    c.say-in-Ok-None.ensures.ok

pub returns-in-Ok-None-clause-err : goal.returns-in-Ok-None-clause-err
returns-in-Ok-None-clause-err g c k known =
    let talk = c.loop-count.invariant.talk k known in
    let reads = rw c.in-Ok-None.field-0-is at c.in-Ok-None.ensures.ok in
    IfErr-weaker c.say-in-Ok-None.result _ _
    (λ e cut. close_fails talk g.met.G.Shown.readable c.loop-count.asked.legal _ _ c.deref.ensures.0
    (c.as_slice-in-Ok-None.ensures.value ∙ c.close.ensures k talk.known) _ _ c.loop-count.invariant.few reads.0 e cut)
    c.say-in-Ok-None.ensures.err

pub returns-in-Err-clause-err : goal.returns-in-Err-clause-err
returns-in-Err-clause-err g c k known = read_fails (c.loop-count.invariant.talk k known) _ c.in-Err.ensures.err c.loop-count.invariant.few

pub returns-then-count-eq-SESSION_BYTES-clause-err : goal.returns-then-count-eq-SESSION_BYTES-clause-err
returns-then-count-eq-SESSION_BYTES-clause-err g c k known =
    let reads = rw c.in-Ok-Some.field-0-is at c.in-Ok-Some.ensures.ok in
    too_long (c.loop-count.invariant.talk k known) _ c.in-Ok-Some.byte reads c.if-count-eq-SESSION_BYTES.true

pub returns-in_err-say-2-clause-err : goal.returns-in_err-say-2-clause-err
returns-in_err-say-2-clause-err g c k known =
    let talk = c.loop-count.invariant.talk k known in
    let few = one_below _ _ c.loop-count.invariant.few c.if-count-eq-SESSION_BYTES.false in
    let reads = rw c.in-Ok-Some.field-0-is at c.in-Ok-Some.ensures.ok in
    let h = hears talk g.met.G.Shown.readable c.loop-count.asked.legal _ c.deref-then-byte-eq10.ensures.0 (c.reply-part.ensures k talk.known) in
    passed c.from_residual-in_err-say-2.result _ c.in_err-say-2.field-0.0 c.from_residual-in_err-say-2.ensures.1
    (fails (answers talk _ c.in-Ok-Some.byte reads (eq-eqb _ _ c.if-byte-eq10.true) few)
    (c.as_slice-then-byte-eq10.ensures.value ∙ h.0, h.1, h.2) _ _ c.in_err-say-2.ensures.err)

pub returns-in_default-asked-clause-ok : goal.returns-in_default-asked-clause-ok
returns-in_default-asked-clause-ok g c k known =
    let talk = c.loop-count.invariant.talk k known in
    let few = one_below _ _ c.loop-count.invariant.few c.if-count-eq-SESSION_BYTES.false in
    let reads = rw c.in-Ok-Some.field-0-is at c.in-Ok-Some.ensures.ok in
    let h = hears talk g.met.G.Shown.readable c.loop-count.asked.legal _ c.deref-then-byte-eq10.ensures.0 (c.reply-part.ensures k talk.known) in
    ends (answers talk _ c.in-Ok-Some.byte reads (eq-eqb _ _ c.if-byte-eq10.true) few)
    (c.as_slice-then-byte-eq10.ensures.value ∙ h.0, h.1, h.2) _ (rw c.in_default-asked.is) c.in_ok-say-2.ensures.ok

pub loop-count-preserved : goal.loop-count-preserved
loop-count-preserved g c =
    let few : c.loop-count.count + 1 ≤ SESSION_BYTES = one_below _ _ c.loop-count.invariant.few c.if-count-eq-SESSION_BYTES.false in
    let reads = rw c.in-Ok-Some.field-0-is at c.in-Ok-Some.ensures.ok in
    elim c.if-byte-eq10.branch [
      | then-byte-eq10+in_ok-say-2+in-Some-asked w ↦ record {
        few = few;
        talk = λ (k : Advice) known. (
            let talk = c.loop-count.invariant.talk k known in
            let h = hears talk g.met.G.Shown.readable c.loop-count.asked.legal _ w.deref-then-byte-eq10.ensures.0 (w.reply-part.ensures k talk.known) in
            rw (w.output-is, w.asked-is, w.line-is, w.clear.ensures)
            (asks_next (answers talk _ c.in-Ok-Some.byte reads (eq-eqb _ _ w.if-byte-eq10.true) few)
            (w.as_slice-then-byte-eq10.ensures.value ∙ h.0, h.1, h.2) _ w.in-Some-asked.next.position (rw w.in-Some-asked.is) w.in_ok-say-2.ensures.ok));
      }
      | else-byte-eq10+then-not-is_full w ↦ (
          let grown : w.push.new.self.items ≡ c.loop-count.line.items ++ c.in-Ok-Some.byte ∷ [] = w.push.ensures.items in
          let short : length c.loop-count.line.items < KEPT = grind (arith, w.is_full.ensures.value, w.is_full.ensures.fits, w.if-not-is_full.true) in
          record {
            few = few;
            talk = λ (k : Advice) known. (
                let talk = c.loop-count.invariant.talk k known in
                rw (w.output-is, w.asked-is, w.line-is)
                (goes_on talk _ c.in-Ok-Some.byte w.push.new.self.items reads (ne_eqb _ _ w.if-byte-eq10.false)
                (grown ∙ kept_push c.loop-count.line.items talk.line c.in-Ok-Some.byte talk.keeps short)));
          })
      | else-byte-eq10+else-not-is_full w ↦ (
          let full : length c.loop-count.line.items ≡ KEPT = grind (arith, w.is_full.ensures.value, w.is_full.ensures.fits, w.if-not-is_full.false) in
          record {
            few = few;
            talk = λ (k : Advice) known. (
                let talk = c.loop-count.invariant.talk k known in
                rw (w.output-is, w.asked-is, w.line-is)
                (goes_on talk _ c.in-Ok-Some.byte c.loop-count.line.items reads (ne_eqb _ _ w.if-byte-eq10.false)
                (kept_full c.loop-count.line.items talk.line c.in-Ok-Some.byte talk.keeps full)));
          })
    ]
