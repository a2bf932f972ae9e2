-- A tier of the order, those before it, and what a build that stops there leaves.
use Rattle.gm_build.proofs.Lower.{◌≡◌, ℕ, inl, inr, List, length, take, Some, sym, subst, ◌∙◌, arith, Contains, Rules, TableData, IsOrderFrom, Texts, AreSameBut, HaveTexts, KeepsOthers, HoldsExactly}
use Rattle.std.proofs.Common.{◌<◌, get_or, slice_get, length-take}
use Rattle.std.proofs.lemmas.List.{take_more, get_or-take}
use Rattle.gm_tiers.specs.Orders.{ComeChildrenFirst, IsTierBefore}
use Rattle.gm_build.specs.Outcomes.{StopsAt, MayHaveText}
use Rattle.std.proofs.lemmas.Option.{slice_get-get_or}
use Rattle.std.proofs.lemmas.Grind.{get_or_default_zero}
use Rattle.gm_table.specs.Tables.{AreHeld}
use Rattle.gm_build.proofs.StoreLemmas.{texts_kept, others_more}

module _ (r : Rules) (first : ℕ) (tiers : List ℕ) (order : IsOrderFrom r first tiers) (k : ℕ) (inside : k < length tiers) where
  -- the tier is not one of those before it
  pub fresh_tier : Contains (take k tiers) (get_or tiers k 0) → ⊥
  fresh_tier (j, low, e) =
      let t = get_or tiers k 0 in
      let j<k : j < k = omega (arith, length-take k tiers) in
      let j<n : j < length tiers = omega arith in
      let same : get_or tiers j 0 ≡ t = sym (get_or_default_zero tiers j t j<n) ∙ sym (get_or-take k tiers j t j<k) ∙ e in
      let itself : IsTierBefore r t t = subst (λ (u : ℕ). IsTierBefore r u t) same (order.ordered j k 0 j<k inside) in
      elim itself [ inl less ↦ (let none : ⊥ = omega arith in none) | inr b ↦ (let less = b.1 in let none : ⊥ = omega arith in none) ]

  -- it is there
  pub tier_there : slice_get tiers k ≡ Some (get_or tiers k 0)
  tier_there = slice_get-get_or tiers k 0 inside

  -- its child tiers are held, where those before it are
  pub children_held : (entries : List TableData) → HoldsExactly entries (take k tiers) → ComeChildrenFirst r tiers → AreHeld r entries (get_or tiers k 0)
  children_held entries exact before child c = (exact child).1 (before k (get_or tiers k 0) child tier_there c)

  -- what the store has where the build stops there
  pub stops_here : (start old new : Texts) → HaveTexts r old (take k tiers) → KeepsOthers (take k tiers) start old → AreSameBut (get_or tiers k 0) old new
      → MayHaveText r old new (get_or tiers k 0)
      → StopsAt r first start new (get_or tiers k 0)
  stops_here start old new have others same here =
      let t = get_or tiers k 0 in
      record {
        tiers = tiers;
        order = order;
        done = k;
        next = tier_there;
        texts = texts_kept r (take k tiers) t fresh_tier old new have same;
        here = elim here [ inl e ↦ inl (e ∙ others t fresh_tier) | inr h ↦ inr h ];
        others = subst (λ (l : List ℕ). KeepsOthers l start new) (sym (take_more tiers k 0 inside))
            (others_more r (take k tiers) t fresh_tier start old new others same);
      }
