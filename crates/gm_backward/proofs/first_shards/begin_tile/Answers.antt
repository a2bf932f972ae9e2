use Rattle.std.proofs.lemmas.Result.{IfOk-weaker}
use Rattle.std.proofs.lemmas.List.{length-drop, length-take-le}
use Rattle.gm_backward.proofs.Lower.{Start, HasNoneHere, ◌-◌, arith, ◌≡◌, ℕ, List, length, drop, suc, sym, ap, ◌∙◌, subst, cut_at}
use Rattle.std.proofs.Common.{take}
use Rattle.gm_backward.proofs.BlockLemmas.{starts_part}
use Rattle.gm_backward.proofs.SplitLemmas.{cut_within, step_up}
use Rattle.gm_backward.proofs.TilingLemmas.{begun_at}
use Rattle.gm_backward.proofs.RoundLemmas.{none_first}
use Rattle.gm_backward.specs.inner.Tiling.{IsTile}
use Rattle.gm_backward.proofs.first_shards.begin_tile.Goals as goal

pub slice_bounds-begin-start : goal.slice_bounds-begin-start
slice_bounds-begin-start g c =
    let r = g.G.Game.rules in
    let size = r.tier_size c.args.tier in
    let up = c.requires.cuts.ascending in
    let order = step_up size c.args.cuts up c.args.k in
    let within = cut_within size c.args.cuts up c.args.k c.requires.tile in
    let lo = c.range-lo.ensures.lo ∙ ap (λ (n : ℕ). cut_at n c.args.cuts c.args.k) c.tier_size-size.ensures in
    let hi = c.range-lo.ensures.hi ∙ ap (λ (n : ℕ). cut_at n c.args.cuts (suc c.args.k)) c.tier_size-size.ensures in
    let long = c.requires.whole in
    omega arith

pub slice_bounds-begin-end : goal.slice_bounds-begin-end
slice_bounds-begin-end g c =
    let r = g.G.Game.rules in
    let size = r.tier_size c.args.tier in
    let up = c.requires.cuts.ascending in
    let order = step_up size c.args.cuts up c.args.k in
    let within = cut_within size c.args.cuts up c.args.k c.requires.tile in
    let lo = c.range-lo.ensures.lo ∙ ap (λ (n : ℕ). cut_at n c.args.cuts c.args.k) c.tier_size-size.ensures in
    let hi = c.range-lo.ensures.hi ∙ ap (λ (n : ℕ). cut_at n c.args.cuts (suc c.args.k)) c.tier_size-size.ensures in
    let long = c.requires.whole in
    omega arith

pub begin-requires-clause-starts : goal.begin-requires-clause-starts
begin-requires-clause-starts g c = starts_part g.G.Game.rules c.args.tier c.range-lo.result.0 (c.range-lo.result.1 - c.range-lo.result.0)
    c.args.starts.now c.requires.starts

pub returns : goal.returns
returns g c =
    let r = g.G.Game.rules in
    let lo = c.range-lo.result.0 in
    let hi = c.range-lo.result.1 in
    let part : List Start = take (hi - lo) (drop lo c.args.starts.now) in
    let up = c.requires.cuts.ascending in
    let order = step_up (r.tier_size c.args.tier) c.args.cuts up c.args.k in
    let within = cut_within (r.tier_size c.args.tier) c.args.cuts up c.args.k c.requires.tile in
    let whole = c.requires.whole in
    let from = c.range-lo.ensures.lo ∙ ap (λ (n : ℕ). cut_at n c.args.cuts c.args.k) c.tier_size-size.ensures in
    let end = c.range-lo.ensures.hi ∙ ap (λ (n : ℕ). cut_at n c.args.cuts (suc c.args.k)) c.tier_size-size.ensures in
    let rest = length-drop lo c.args.starts.now in
    let long : length part ≡ hi - lo = length-take-le (hi - lo) (drop lo c.args.starts.now) (omega arith) in
    IfOk-weaker c.begin.result _ (IsTile r c.args.tier c.args.cuts c.args.k)
    (λ shard is.
    record {
      spot_is = begun_at r c.args.tier c.args.cuts c.args.k lo (length part) shard is from (omega arith);
      none = subst (HasNoneHere r) (sym is) (none_first r c.args.tier lo _);
    })
    c.begin.ensures
