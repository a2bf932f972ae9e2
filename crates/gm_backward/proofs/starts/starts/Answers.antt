use Rattle.gm_backward.proofs.Lower.{at, AreStarts, ◌≡◌, ℕ, ◌+◌, ◌-◌, ◌≤◌, [], ◌∷◌, ◌++◌, length, length-append, sym, ap, subst, ◌∙◌, arith}
use Rattle.gm_counters.specs.inner.Begin.{IsStart}
use Rattle.gm_table.proofs.Dealt.{one_at}
use Rattle.gm_backward.proofs.BlockLemmas.{starts_holes}
use Rattle.gm_backward.proofs.starts.starts.Goals as goal

pub loop-index-preserved : goal.loop-index-preserved
loop-index-preserved g c =
    let r = g.G.Game.rules in
    let tier = c.args.tier in
    let lo = c.args.lo in
    let index = c.in-Some.index in
    let before = c.loop-index.list.items in
    let filled = c.resize.new.self.items in
    let record { long = long; high = high; starts = old } = c.loop-index.invariant in
    let (low, below, holes, canonical) = c.in-Some.ensures in
    let few : length before ≤ index - lo = omega arith in
    let end : lo + (index - lo) ≡ index = omega arith in
    let (many, starts) = starts_holes r tier lo (index - lo) _ c.loop-index.next index before filled c.loop-index.list.ok.0 few long end
    c.in_ok-resize.ensures.items holes old in
    let x = c.start_of_canonical.result in
    let pushed : c.push.new.self.items ≡ filled ++ x ∷ [] = c.in_ok-push.ensures.items in
    let place : index ≡ lo + length filled = omega arith in
    let here = subst (λ (k : ℕ). IsStart r (at tier k) x) place c.start_of_canonical.ensures in
    let many_more = ap length pushed ∙ length-append filled (x ∷ []) in
    let all = one_at (λ k y. IsStart r (at tier (lo + k)) y) filled x here starts in
    record { long = omega arith; high = omega arith; starts = subst (AreStarts r tier lo) (sym pushed) all }
