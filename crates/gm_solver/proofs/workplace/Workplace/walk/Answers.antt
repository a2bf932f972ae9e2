use Rattle.gm_solver.proofs.Lower.{refl, ◌≡◌, ◌≤◌, ◌+◌, ℕ, Some, slice_get, length, sym, subst, ◌∙◌, arith, Place, NoteData, pairs_into}
use Rattle.std.proofs.Common.{suc, drop}
use Rattle.std.proofs.lemmas.Option.{slice_get_within}
use Rattle.gm_game.specs.declared.limits.TheConstants.{TIER_SIZE}
use Rattle.gm_locks.proofs.RoundLemmas.{level_into, pairs_are_into}
use Rattle.gm_backward.proofs.RoundLemmas.{into_fit, item_next, item_last}
use Rattle.gm_solver.proofs.workplace.Workplace.walk.Goals as goal

pub loop-note-init : goal.loop-note-init
loop-note-init g c =
    let r = g.G.Game.rules in
    let l = c.args.self.now.level.now in
    let spot = g.L.ShardLedger.spot in
    let notes = g.L.LevelLedger.notes in
    let long : length l.notes ≤ c.max.result = (let a = c.len.ensures in let b = c.max.ensures in omega arith) in
    let items = pairs_are_into r l spot notes c.args.self.now.level_is c.range-lo.result.0 c.range-lo.result.1 c.range-lo.ensures.lo c.range-lo.ensures.hi
    c.pairs-note-items.result (c.pairs-note-items.ensures.whole refl long) in
    let pairs = c.into_iter-note-iterator.ensures.into_iter_gives ∙ items in
    record { left = sym pairs; within = omega arith }

pub deliver_next-answer-requires : goal.deliver_next-answer-requires
deliver_next-answer-requires g c =
    let pairs = pairs_into g.G.Game.rules g.L.ShardLedger.spot g.L.LevelLedger.notes in
    let pair : NoteData × ℕ = (c.in-Some.note, c.in-Some.parent) in
    let next = item_next pairs c.loop-note.number pair c.next.new.self (c.loop-note.invariant.left ∙ c.in-Some.ensures.steps) in
    let same : c.loop-note.number ≡ c.loop-note.pass = c.if-number-amount.true ∙ c.amount.ensures.value in
    subst (λ (k : ℕ). slice_get pairs k ≡ Some pair) same next.0

pub overflow_add-number : goal.overflow_add-number
overflow_add-number g c =
    let r = g.G.Game.rules in
    let l = c.args.self.now.level.now in
    let spot = g.L.ShardLedger.spot in
    let notes = g.L.LevelLedger.notes in
    let at = c.args.self.now.level_is in
    let small : r.tier_size spot.tier ≤ TIER_SIZE = subst (λ (p : Place). r.tier_size p.tier ≤ TIER_SIZE) at.place c.place-place.ensures.small in
    let few = into_fit r g.met.G.Game.lawful spot notes (level_into r l spot notes at c.place-place.ensures.level) small in
    let pairs = pairs_into r spot notes in
    let pair : NoteData × ℕ = (c.in-Some.note, c.in-Some.parent) in
    let next = item_next pairs c.loop-note.number pair c.next.new.self (c.loop-note.invariant.left ∙ c.in-Some.ensures.steps) in
    let inside = slice_get_within pairs c.loop-note.number pair next.0 in
    omega arith

pub loop-note-preserved : goal.loop-note-preserved
loop-note-preserved g c =
    let pairs = pairs_into g.G.Game.rules g.L.ShardLedger.spot g.L.LevelLedger.notes in
    let pair : NoteData × ℕ = (c.in-Some.note, c.in-Some.parent) in
    let next = item_next pairs c.loop-note.number pair c.next.new.self (c.loop-note.invariant.left ∙ c.in-Some.ensures.steps) in
    let inside = slice_get_within pairs c.loop-note.number pair next.0 in
    let up : suc c.loop-note.number ≡ c.loop-note.number + 1 = omega arith in
    record {
      left = subst (λ (k : ℕ). drop k pairs ≡ c.next.new.self) up next.1;
      within = omega arith;
    }

pub returns : goal.returns
returns g c =
    let pairs = pairs_into g.G.Game.rules g.L.ShardLedger.spot g.L.LevelLedger.notes in
    let most = item_last pairs c.loop-note.number (c.loop-note.invariant.left ∙ c.in-None.ensures.steps.0) in
    let within = c.loop-note.invariant.within in
    omega arith
