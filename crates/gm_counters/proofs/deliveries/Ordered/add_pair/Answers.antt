use Rattle.gm_counters.proofs.Lower.{logged, ℕ, ◌-◌, ◌<◌, ◌≤◌, length, sym, subst, arith, length-set, ShardState, CanDeliver}
use Rattle.gm_counters.proofs.StepLemmas.{within_after}
use Rattle.gm_counters.proofs.OrderedLemmas.{place_left, place_statuses, can_fall, can_rise, kept_seen, shown_more}
use Rattle.gm_counters.proofs.deliveries.Ordered.add_pair.Goals as goal

pub overflow_sub-k : goal.overflow_sub-k
overflow_sub-k g c = subst (λ (s : ShardState). s.lo ≤ c.args.parent) (sym c.self.view_is) c.requires.can.is_mine.0

pub index_mut-requires : goal.index_mut-requires
index_mut-requires g c =
    let f = c.self.inside in
    let r = g.G.Game.rules in
    subst (λ (n : ℕ). c.args.parent - f.lo < n) (sym f.rows.left.ok.0)
    (place_left g.met.G.Game.lawful c.self.invariant (subst (λ (s : ShardState). CanDeliver r s c.args.note.now.position c.args.parent)
    (sym c.self.view_is) c.requires.can))

pub overflow_sub-index_mut : goal.overflow_sub-index_mut
overflow_sub-index_mut g c =
    let r = g.G.Game.rules in
    can_fall g.met.G.Game.lawful c.self.invariant (subst (λ (s : ShardState). CanDeliver r s c.args.note.now.position c.args.parent) (sym c.self.view_is)
    c.requires.can) c.index_mut.result.now c.index_mut.ensures.value

pub set-requires-clause-place : goal.set-requires-clause-place
set-requires-clause-place g c =
    let r = g.G.Game.rules in
    place_statuses g.met.G.Game.lawful c.self.invariant (subst (λ (s : ShardState). CanDeliver r s c.args.note.now.position c.args.parent)
    (sym c.self.view_is) c.requires.can)

pub set-requires-clause-near : goal.set-requires-clause-near
set-requires-clause-near g c = within_after g.G.Game.rules c.args.self.now c.args.note.now.position c.args.parent c.args.next c.requires.can c.requires.next

pub overflow_add-self : goal.overflow_add-self
overflow_add-self g c =
    let r = g.G.Game.rules in
    let room = can_rise g.met.G.Game.lawful c.self.invariant
    (subst (λ (s : ShardState). CanDeliver r s c.args.note.now.position c.args.parent) (sym c.self.view_is) c.requires.can) in
    omega arith

pub invariant_of-self : goal.invariant_of-self
invariant_of-self g c =
    let r = g.G.Game.rules in
    let f = c.self.inside in
    kept_seen g.met.G.Game.lawful f.tier f.lo f.phase f.level (logged f.rows.pairs) c.after.result.items c.args.note.now.position c.position-child.result
    c.args.parent c.args.self.now c.self.view_is c.self.invariant c.requires.can c.args.next c.requires.next
    c.index_mut.result.now c.index_mut.ensures.value c.set.new.self c.set.ensures c.position-child.ensures.value c.after.ensures

pub returns : goal.returns
returns g c =
    let f = c.self.inside in
    shown_more f.tier f.lo f.phase f.level (length f.rows.left.items)
    _ (logged f.rows.pairs) c.after.result.items c.args.note.now.position c.position-child.result c.args.parent c.args.self.now c.self.view_is
    (sym (length-set f.rows.left.items (c.args.parent - f.lo) (c.index_mut.result.now - 1))) c.position-child.ensures.value c.after.ensures
