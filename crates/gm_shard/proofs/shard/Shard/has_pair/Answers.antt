use Rattle.gm_shard.proofs.Lower.{◌≡◌, ℕ, ◌-◌, ◌↔◌, Some, get_or, subst, sym, arith, Contains, ShardState, IsInRange, delivered_to, IsPlaceOf}
use Rattle.std.proofs.Common.{IsTrue}
use Rattle.gm_shard.proofs.MaskedLemmas.{in_told, pair_is}
use Rattle.gm_shard.proofs.shard.Shard.has_pair.Goals as goal

pub index-requires : goal.index-requires
index-requires g c =
    let f = c.self.inside in
    let h = in_told g.G.Game.rules f.order f.masks.items c.args.parent c.self.invariant
    (subst (λ (s : ShardState). IsInRange s c.args.parent) (sym c.self.view_is) c.requires.range) in
    omega (arith, f.masks.ok.0, c.range-lo.ensures.lo)

pub returns : goal.returns
returns g c =
    let r = g.G.Game.rules in
    let f = c.self.inside in
    let child = c.args.note.now.position in
    let read = subst (λ (n : ℕ). c.index.result.now ≡ get_or f.masks.items (c.args.parent - n) c.index.result.now) c.range-lo.ensures.lo c.index.ensures in
    subst (λ (s : ShardState). IsInRange s c.args.parent → IsPlaceOf r child s.tier c.args.parent (Some c.args.place)
    → IsTrue c.has_bit.result ↔ Contains (delivered_to s c.args.parent) child) c.self.view_is
    (λ m p. pair_is r f.order f.masks.items child c.args.parent c.args.place c.index.result.now c.self.invariant m p read _ c.has_bit.ensures)
    c.requires.range c.requires.place
