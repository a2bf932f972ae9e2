use Rattle.gm_shard.proofs.Lower.{◌≡◌, ℕ, ◌-◌, get_or, subst, sym, arith, Some, set, ShardState, IsInRange, IsPairHere, IsPlaceOf}
use Rattle.gm_shard.proofs.MaskedLemmas.{out_repeat, pair_here, Tells, in_told, added_is, tells_more}
use Rattle.gm_shard.proofs.shard.Shard.deliver_here.Goals as goal

pub returns-then-has_pair : goal.returns-then-has_pair
returns-then-has_pair g c =
    out_repeat g.G.Game.rules c.args.self.now c.args.note.now c.args.parent c.args.place c.requires.level c.requires.range c.requires.place
    (c.has_pair.ensures.0 c.if-has_pair.true)

pub deliver_new-answer-requires-clause-here : goal.deliver_new-answer-requires-clause-here
deliver_new-answer-requires-clause-here g c = subst (λ (s : ShardState). IsPairHere g.G.Game.rules s c.args.note.now c.args.parent) (sym c.self.view_is)
    (pair_here g.G.Game.rules c.args.self.now c.args.note.now c.args.parent c.args.place c.requires.level c.requires.range c.requires.place)

pub index-requires : goal.index-requires
index-requires g c =
    let f = c.self.inside in
    let h = in_told g.G.Game.rules f.order f.masks.items c.args.parent c.self.invariant
    (subst (λ (s : ShardState). IsInRange s c.args.parent) (sym c.self.view_is) c.requires.range) in
    omega (arith, f.masks.ok.0, c.range-lo.ensures.lo)

pub index_mut-requires : goal.index_mut-requires
index_mut-requires g c =
    let f = c.self.inside in
    let h = in_told g.G.Game.rules f.order f.masks.items c.args.parent c.self.invariant
    (subst (λ (s : ShardState). IsInRange s c.args.parent) (sym c.self.view_is) c.requires.range) in
    omega (arith, f.masks.ok.0, c.range-lo.ensures.lo)

pub invariant_of-self : goal.invariant_of-self
invariant_of-self g c =
    let r = g.G.Game.rules in
    let f = c.self.inside in
    let t = c.deliver_new-answer.new.self in
    let lo = c.range-lo.ensures.lo in
    let a = added_is r c.args.note.now c.args.parent f.order t c.deliver_new-answer.result c.deliver_new-answer.ensures
    (c.is_added.ensures.0 c.if-is_added.true) in
    subst (λ (n : ℕ). Tells r t (set f.masks.items (c.args.parent - n) c.with_bit.result)) (sym lo)
    (tells_more r f.order t f.masks.items c.args.note.now.position c.args.parent c.args.place c.with_bit.result c.index.result.now c.self.invariant
    (subst (λ (s : ShardState). IsInRange s c.args.parent) (sym c.self.view_is) c.requires.range)
    (subst (λ (s : ShardState). IsPlaceOf r c.args.note.now.position s.tier c.args.parent (Some c.args.place)) (sym c.self.view_is) c.requires.place)
    a.1 a.0 (subst (λ (n : ℕ). c.index.result.now ≡ get_or f.masks.items (c.args.parent - n) c.index.result.now) lo c.index.ensures)
    c.with_bit.ensures.same c.with_bit.ensures.other)
