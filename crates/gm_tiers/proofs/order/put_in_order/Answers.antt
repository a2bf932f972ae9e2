use Rattle.gm_tiers.proofs.Lower.{◌≡◌, ◌≢◌, ℕ, List, map, ap, subst, sym, ◌∙◌, AllPairs}
use Rattle.std.proofs.lemmas.Map.Made.{AllPairs-from_IsDistinct}
use Rattle.std.proofs.lemmas.Bool.Decides.{Decides-eqb}
use Rattle.gm_tiers.specs.Orders.{IsTierBefore}
use Rattle.std.specs.List.Sorted.{IsPermutation}
use Rattle.std.proofs.lemmas.Result.{IfOk-weaker}
use Rattle.gm_tiers.proofs.OrderLemmas.{ranked, tier_of, same_tiers, pairs_ordered, eqb_flips}
use Rattle.std.proofs.lemmas.Map.Keys.{IsDistinct-IsPermutation}
use Rattle.std.proofs.Common.{◌==◌}
use Rattle.gm_tiers.proofs.order.put_in_order.Given.{Over}
use Rattle.gm_tiers.proofs.order.put_in_order.Goals as goal

-- the pairs that are sorted
same_pairs : (g : Over) (c : goal.After-drop-pairs g) → IsPermutation (map (ranked g.G.Game.rules) c.args.found.now.keys) c.sort_unstable.new.self.items
same_pairs g c = subst (λ xs. IsPermutation xs c.sort_unstable.new.self.items)
    (c.in_ok-pairs.ensures ∙ ap (map (ranked g.G.Game.rules)) c.as_slice.ensures.keys) c.sort_unstable.ensures.permutation

pub returns-clause-same : goal.returns-clause-same
returns-clause-same g c = IfOk-weaker c.numbers.result _ _
    (λ v e. subst (λ xs. IsPermutation c.args.found.now.keys xs) (sym (e ∙ ap (map tier_of) c.as_slice-2.ensures.value))
    (same_tiers g.G.Game.rules c.args.found.now.keys c.sort_unstable.new.self.items (same_pairs g c))) c.numbers.ensures

pub returns-clause-ordered : goal.returns-clause-ordered
returns-clause-ordered g c =
    let r = g.G.Game.rules in
    let keys : List ℕ = c.args.found.now.keys in
    let pairs : List (ℕ × ℕ) = c.sort_unstable.new.self.items in
    let once : AllPairs (λ (t u : ℕ). t ≢ u) (map tier_of pairs) = AllPairs-from_IsDistinct Decides-eqb (map tier_of pairs)
    (IsDistinct-IsPermutation (λ (t u : ℕ). t == u) eqb_flips keys (map tier_of pairs) (same_tiers r keys pairs (same_pairs g c)) c.as_slice.ensures.unique) in
    IfOk-weaker c.numbers.result _ _
    (λ v e. subst (λ xs. AllPairs (IsTierBefore r) xs) (sym (e ∙ ap (map tier_of) c.as_slice-2.ensures.value))
    (pairs_ordered r keys pairs once (same_pairs g c) c.sort_unstable.ensures.sorted)) c.numbers.ensures
