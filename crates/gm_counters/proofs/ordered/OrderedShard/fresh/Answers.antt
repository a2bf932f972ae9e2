use Rattle.gm_counters.proofs.Lower.{IfOk-from_err, Contains, IsPermutation, IsNonDecreasing, NoteData, ShardState, IsSettledAt, AreSettledAt, AreNotesAt, ℕ, ◌+◌, List, length, sym, subst}
use Rattle.std.proofs.lemmas.List.Sorted.{IsNonDecreasingBy-from_sort}
use Rattle.gm_frontier.specs.Levels.{IsRunOfNotes}
use Rattle.gm_counters.specs.Steps.{place_of}
use Rattle.gm_counters.proofs.FreshLemmas.{settled_permuted, run_of}
use Rattle.gm_counters.proofs.ordered.OrderedShard.fresh.Given.{Over}
use Rattle.gm_counters.proofs.ordered.OrderedShard.fresh.Goals.{After-sort_unstable}
use Rattle.gm_counters.proofs.ordered.OrderedShard.fresh.Goals as goal

-- the sorted indexes are those that are settled at the present place
sorted : (g : Over) (c : After-sort_unstable g) → AreSettledAt g.G.Game.rules c.args.self.now c.args.self.now.phase c.args.self.now.level
    c.sort_unstable.new.self.items
sorted g c =
    let s = c.args.self.now in
    settled_permuted g.G.Game.rules s s.phase s.level c.present.result.now c.sort_unstable.new.self.items
    (subst (λ (l : List ℕ). IsPermutation l c.sort_unstable.new.self.items) c.in_ok-indexes.ensures.items c.sort_unstable.ensures.permutation)
    c.present.ensures

pub notes_at-requires : goal.notes_at-requires
notes_at-requires g c k h =
    let all = sorted g (goal.at.notes_at-requires g c).After-sort_unstable in
    let here = (all.listed k).0 (subst (λ (l : List ℕ). Contains l k) c.as_slice.ensures.value h) in
    subst (λ (x : ShardState). IsSettledAt g.G.Game.rules x x.phase x.level k) (sym c.self.view_is) here

pub of-requires : goal.of-requires
of-requires g c =
    let r = g.G.Game.rules in
    let s = c.args.self.now in
    let items : List ℕ = c.sort_unstable.new.self.items in
    let found : List NoteData = c.in_ok-notes.notes.items in
    let all = sorted g (goal.at.of-requires g c).After-sort_unstable in
    let up : IsNonDecreasing items = IsNonDecreasingBy-from_sort (λ (x : ℕ). x) items c.sort_unstable.ensures.sorted in
    let notes : AreNotesAt r s items found = subst (λ (x : ShardState). AreNotesAt r x items found) c.self.view_is
    (subst (λ (l : List ℕ). AreNotesAt r c.self.inside.children l found) c.as_slice.ensures.value c.in_ok-notes.ensures) in
    let run : IsRunOfNotes r (place_of s) s.lo (s.lo + length s.delivered) found = run_of r s c.range-lo.ensures.good items found all up notes in
    rw (c.place.ensures, c.range-lo.ensures.lo, c.range-lo.ensures.hi) run

pub returns-in_err-indexes-clause-place : goal.returns-in_err-indexes-clause-place
returns-in_err-indexes-clause-place g c = IfOk-from_err c.from_residual.result _ c.from_residual.ensures.0

pub returns-in_err-indexes-clause-lo : goal.returns-in_err-indexes-clause-lo
returns-in_err-indexes-clause-lo g c = IfOk-from_err c.from_residual.result _ c.from_residual.ensures.0

pub returns-in_err-indexes-clause-hi : goal.returns-in_err-indexes-clause-hi
returns-in_err-indexes-clause-hi g c = IfOk-from_err c.from_residual.result _ c.from_residual.ensures.0

pub returns-in_err-notes-clause-place : goal.returns-in_err-notes-clause-place
returns-in_err-notes-clause-place g c = IfOk-from_err c.from_residual-in_err-notes.result _ c.from_residual-in_err-notes.ensures.0

pub returns-in_err-notes-clause-lo : goal.returns-in_err-notes-clause-lo
returns-in_err-notes-clause-lo g c = IfOk-from_err c.from_residual-in_err-notes.result _ c.from_residual-in_err-notes.ensures.0

pub returns-in_err-notes-clause-hi : goal.returns-in_err-notes-clause-hi
returns-in_err-notes-clause-hi g c = IfOk-from_err c.from_residual-in_err-notes.result _ c.from_residual-in_err-notes.ensures.0
