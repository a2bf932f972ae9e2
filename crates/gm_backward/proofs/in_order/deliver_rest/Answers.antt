use Rattle.gm_backward.proofs.Lower.{◌≡◌, ◌+◌, ◌<◌, ◌≤◌, ℕ, suc, length, drop, refl, sym, ap, subst, ◌∙◌, arith, slice_get_within, REMOTENESS, TIER_SIZE, Place, NoteData, IsLevel, place_of, Spot, spot_of, pairs_into, AreFirst, IsTooFar}
use Rattle.std.proofs.Common.{max, Ok, Err}
use Rattle.gm_locks.specs.Rounds.{IsLevelAt}
use Rattle.gm_locks.proofs.RoundLemmas.{pairs_are_into}
use Rattle.gm_locks.proofs.Gains.{stays}
use Rattle.gm_backward.proofs.Far.{refused_far}
use Rattle.gm_backward.proofs.RoundLemmas.{item_next, item_last, into_fit}
use Rattle.gm_backward.proofs.InOrderLemmas.{next_of, next_new, next_first, whole_at_end}
use Rattle.gm_backward.proofs.in_order.deliver_rest.Goals as goal

pub loop-note-init : goal.loop-note-init
loop-note-init g c =
    let r = g.G.Game.rules in
    let l = c.args.level.now in
    let s = c.args.shard.now in
    let long : length l.notes ≤ c.max.result = (let a = c.len.ensures in let b = c.max.ensures in omega arith) in
    let at : IsLevelAt l (spot_of s) l.notes = record { place = c.requires.place; notes_are = refl } in
    let items = pairs_are_into r l (spot_of s) l.notes at c.range-lo.result.0 c.range-lo.result.1 c.range-lo.ensures.lo c.range-lo.ensures.hi
    c.pairs-note-items.result (c.pairs-note-items.ensures.whole refl long) in
    let pairs = c.into_iter-note-iterator.ensures.into_iter_gives ∙ items in
    let from : c.args.done ≡ max 0 c.args.done = omega arith in
    record {
      left = sym pairs;
      within = omega arith;
      at = refl;
      first = subst (λ (k : ℕ). AreFirst (pairs_into r (spot_of s) l.notes) s k) from c.requires.first;
    }

pub deliver_new-requires-clause-here : goal.deliver_new-requires-clause-here
deliver_new-requires-clause-here g c =
    let r = g.G.Game.rules in
    let l = c.args.level.now in
    let s = c.args.shard.now in
    let level : IsLevel r (place_of s) l.notes = subst (λ (p : Place). IsLevel r p l.notes) c.requires.place c.place-level.ensures.level in
    let h = c.loop-note.invariant in
    let pair : NoteData × ℕ = (c.in-Some.note, c.in-Some.parent) in
    let next = item_next (pairs_into r (spot_of s) l.notes) c.loop-note.number pair c.next.new.self (h.left ∙ c.in-Some.ensures.steps) in
    (next_of r g.met.G.Game.lawful s l.notes level c.loop-note.shard h.at c.loop-note.number pair next.0).here

pub deliver_new-requires-clause-new : goal.deliver_new-requires-clause-new
deliver_new-requires-clause-new g c =
    let r = g.G.Game.rules in
    let l = c.args.level.now in
    let s = c.args.shard.now in
    let level : IsLevel r (place_of s) l.notes = subst (λ (p : Place). IsLevel r p l.notes) c.requires.place c.place-level.ensures.level in
    let h = c.loop-note.invariant in
    let pair : NoteData × ℕ = (c.in-Some.note, c.in-Some.parent) in
    let next = item_next (pairs_into r (spot_of s) l.notes) c.loop-note.number pair c.next.new.self (h.left ∙ c.in-Some.ensures.steps) in
    let now : max c.loop-note.number c.args.done ≡ c.loop-note.number = omega arith in
    let first = subst (λ (k : ℕ). AreFirst (pairs_into r (spot_of s) l.notes) c.loop-note.shard k) now h.first in
    next_new r g.met.G.Game.lawful s l.notes level c.loop-note.shard c.loop-note.number pair next.0 first

pub loop-note-preserved : goal.loop-note-preserved
loop-note-preserved g c =
    let r = g.G.Game.rules in
    let l = c.args.level.now in
    let s = c.args.shard.now in
    let level : IsLevel r (place_of s) l.notes = subst (λ (p : Place). IsLevel r p l.notes) c.requires.place c.place-level.ensures.level in
    let h = c.loop-note.invariant in
    let pair : NoteData × ℕ = (c.in-Some.note, c.in-Some.parent) in
    let next = item_next (pairs_into r (spot_of s) l.notes) c.loop-note.number pair c.next.new.self (h.left ∙ c.in-Some.ensures.steps) in
    let now : max c.loop-note.number c.args.done ≡ c.loop-note.number = omega arith in
    let first = subst (λ (k : ℕ). AreFirst (pairs_into r (spot_of s) l.notes) c.loop-note.shard k) now h.first in
    let inside = slice_get_within (pairs_into r (spot_of s) l.notes) c.loop-note.number pair next.0 in
    let up : suc c.loop-note.number ≡ c.loop-note.number + 1 = omega arith in
    let more = next_first r g.met.G.Game.lawful s l.notes level c.loop-note.shard c.deliver_new.new.self c.loop-note.number pair c.in-Ok.field-0 h.at next.0
    c.in-Ok.ensures first in
    let to : c.loop-note.number + 1 ≡ max (c.loop-note.number + 1) c.args.done = omega arith in
    record {
      left = subst (λ (k : ℕ). drop k (pairs_into r (spot_of s) l.notes) ≡ c.next.new.self) up next.1;
      within = omega arith;
      at = stays r c.in-Some.note c.in-Some.parent c.loop-note.shard c.deliver_new.new.self (Ok c.in-Ok.field-0) c.in-Ok.ensures ∙ h.at;
      first = subst (λ (k : ℕ). AreFirst (pairs_into r (spot_of s) l.notes) c.deliver_new.new.self k) to more;
    }

pub loop-note-preserved-then-number-done : goal.loop-note-preserved-then-number-done
loop-note-preserved-then-number-done g c =
    let r = g.G.Game.rules in
    let l = c.args.level.now in
    let s = c.args.shard.now in
    let level : IsLevel r (place_of s) l.notes = subst (λ (p : Place). IsLevel r p l.notes) c.requires.place c.place-level.ensures.level in
    let h = c.loop-note.invariant in
    let pair : NoteData × ℕ = (c.in-Some.note, c.in-Some.parent) in
    let next = item_next (pairs_into r (spot_of s) l.notes) c.loop-note.number pair c.next.new.self (h.left ∙ c.in-Some.ensures.steps) in
    let inside = slice_get_within (pairs_into r (spot_of s) l.notes) c.loop-note.number pair next.0 in
    let up : suc c.loop-note.number ≡ c.loop-note.number + 1 = omega arith in
    let to : max c.loop-note.number c.args.done ≡ max (c.loop-note.number + 1) c.args.done =
    (let less : c.loop-note.number < c.args.done = c.if-number-done.true in omega arith) in
    record {
      left = subst (λ (k : ℕ). drop k (pairs_into r (spot_of s) l.notes) ≡ c.next.new.self) up next.1;
      within = omega arith;
      at = h.at;
      first = subst (λ (k : ℕ). AreFirst (pairs_into r (spot_of s) l.notes) c.loop-note.shard k) to h.first;
    }

pub overflow_add-number-in-Ok : goal.overflow_add-number-in-Ok
overflow_add-number-in-Ok g c =
    let r = g.G.Game.rules in
    let l = c.args.level.now in
    let s = c.args.shard.now in
    let level : IsLevel r (place_of s) l.notes = subst (λ (p : Place). IsLevel r p l.notes) c.requires.place c.place-level.ensures.level in
    let h = c.loop-note.invariant in
    let pair : NoteData × ℕ = (c.in-Some.note, c.in-Some.parent) in
    let next = item_next (pairs_into r (spot_of s) l.notes) c.loop-note.number pair c.next.new.self (h.left ∙ c.in-Some.ensures.steps) in
    let inside = slice_get_within (pairs_into r (spot_of s) l.notes) c.loop-note.number pair next.0 in
    let small : r.tier_size s.tier ≤ TIER_SIZE = subst (λ (p : Place). r.tier_size p.tier ≤ TIER_SIZE) c.requires.place c.place-level.ensures.small in
    let few = into_fit r g.met.G.Game.lawful (spot_of s) l.notes level small in
    omega arith

pub returns-in-Err-clause-spot : goal.returns-in-Err-clause-spot
returns-in-Err-clause-spot g c = stays g.G.Game.rules c.in-Some.note c.in-Some.parent c.loop-note.shard c.deliver_new.new.self
    (Err c.in-Err._refused) c.in-Err.ensures ∙ c.loop-note.invariant.at

pub returns-in-Err-clause-whole : goal.returns-in-Err-clause-whole
returns-in-Err-clause-whole g c = tt

pub returns-in-Err-clause-error : goal.returns-in-Err-clause-error
returns-in-Err-clause-error g c =
    let r = g.G.Game.rules in
    let l = c.args.level.now in
    let s = c.args.shard.now in
    let level : IsLevel r (place_of s) l.notes = subst (λ (p : Place). IsLevel r p l.notes) c.requires.place c.place-level.ensures.level in
    let h = c.loop-note.invariant in
    let pair : NoteData × ℕ = (c.in-Some.note, c.in-Some.parent) in
    let next = item_next (pairs_into r (spot_of s) l.notes) c.loop-note.number pair c.next.new.self (h.left ∙ c.in-Some.ensures.steps) in
    let d = next_of r g.met.G.Game.lawful s l.notes level c.loop-note.shard h.at c.loop-note.number pair next.0 in
    let near : c.loop-note.shard.level ≤ REMOTENESS = (let a = c.requires.near in let b = ap (λ (x : Spot). x.level) h.at in omega arith) in (
      c.tier-tier.ensures,
      subst (IsTooFar r) (ap (λ (x : Spot). x.tier) h.at)
          (refused_far r g.met.G.Game.lawful c.loop-note.shard c.deliver_new.new.self pair c.in-Err._refused d c.range-good.ensures.good near c.in-Err.ensures),
    )

pub returns-clause-spot : goal.returns-clause-spot
returns-clause-spot g c = c.loop-note.invariant.at

pub returns-clause-whole : goal.returns-clause-whole
returns-clause-whole g c =
    let r = g.G.Game.rules in
    let l = c.args.level.now in
    let s = c.args.shard.now in
    let level : IsLevel r (place_of s) l.notes = subst (λ (p : Place). IsLevel r p l.notes) c.requires.place c.place-level.ensures.level in
    let h = c.loop-note.invariant in
    let most = item_last (pairs_into r (spot_of s) l.notes) c.loop-note.number (h.left ∙ c.in-None.ensures.steps.0) in
    let all : length (pairs_into r (spot_of s) l.notes) ≤ max c.loop-note.number c.args.done = omega arith in
    whole_at_end r g.met.G.Game.lawful s l.notes level c.loop-note.shard (max c.loop-note.number c.args.done) h.at c.range-end.ensures.good all h.first
