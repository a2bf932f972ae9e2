use Rattle.gm_counters.proofs.Lower.{IfOk-from_err, Contains-get_or, IsSettledAt, StatusIs, Settled, [], ◌∷◌, ◌++◌, ◌≡◌, ℕ, ◌+◌, ◌<◌, length, get_or, sym, subst, arith, Some}
use Rattle.std.proofs.Common.{rules}
use Rattle.gm_counters.proofs.NotesAtLemmas.{notes_more, some_note, note_is}
use Rattle.gm_counters.proofs.ordered.notes_at.Goals as goal

pub note-requires : goal.note-requires
note-requires g c =
    let s = c.args.children.now in
    let k = get_or c.args.indexes.now c.loop-index.index-index 0 in
    let w : IsSettledAt g.G.Game.rules s s.phase s.level k =
    c.requires k (Contains-get_or c.args.indexes.now c.loop-index.index-index 0 c.loop-index-test.true) in
    let l : k < length s.delivered = w.within in
    let lo = c.range-lo.ensures.lo in
    let from : c.from.result ≡ k = c.from.ensures in
    (omega arith, omega arith)

pub unwrap-requires : goal.unwrap-requires
unwrap-requires g c =
    let r = g.G.Game.rules in
    let s = c.args.children.now in
    let k = get_or c.args.indexes.now c.loop-index.index-index 0 in
    let w : IsSettledAt r s s.phase s.level k = c.requires k (Contains-get_or c.args.indexes.now c.loop-index.index-index 0 c.loop-index-test.true) in
    let at' : c.range-lo.result.0 + c.from.result ≡ s.lo + k =
    (let lo = c.range-lo.ensures.lo in let from : c.from.result ≡ k = c.from.ensures in omega arith) in
    some_note r s (c.range-lo.result.0 + c.from.result) w.value c.note.result
    (subst (λ (i : ℕ). StatusIs r s i (Settled w.value)) (sym at') w.settled) c.note.ensures

pub loop-index-preserved : goal.loop-index-preserved
loop-index-preserved g c =
    let r = g.G.Game.rules in
    let s = c.args.children.now in
    let i = c.loop-index.index-index in
    let k = get_or c.args.indexes.now i 0 in
    let at' : c.range-lo.result.0 + c.from.result ≡ s.lo + k =
    (let lo = c.range-lo.ensures.lo in let from : c.from.result ≡ k = c.from.ensures in omega arith) in
    let pushed : c.push.new.self.items ≡ c.loop-index.notes.items ++ c.unwrap.result ∷ [] = search rules in
    let is : c.note.result ≡ Some c.unwrap.result = search rules in
    notes_more r s c.args.indexes.now i c.loop-index.notes.items c.push.new.self.items c.unwrap.result c.loop-index-test.true c.loop-index.invariant pushed
    (note_is r s (c.range-lo.result.0 + c.from.result) k c.unwrap.result c.note.result is at' c.note.ensures)

pub returns-in_err-push : goal.returns-in_err-push
returns-in_err-push g c = IfOk-from_err c.from_residual.result _ c.from_residual.ensures.0
