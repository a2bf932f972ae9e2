-- What a build has done with the first tiers of the order.
use Rattle.gm_build.proofs.Lower.{◌≡◌, ℕ, ◌+◌, ◌≤◌, ◌↔◌, List, [], ◌∷◌, ◌++◌, length, take, refl, subst, ◌∙◌, arith, Contains, TIERS, Rules, TableData, Texts, AreSameBut, HaveTexts, KeepsOthers, HoldsExactly, IsStepWork, with_tier, Solved}
use Rattle.std.proofs.Common.{length-append, ◌*◌}
use Rattle.gm_game.specs.declared.limits.TheConstants.{MOVES, TIER_SIZE}
use Rattle.gm_game.specs.Laws.{IsGame}
use Rattle.gm_game.proofs.Lists.{contains_none}
use Rattle.gm_build.specs.TrueTexts.{HasText, HasOldText}
use Rattle.gm_build.specs.Work.{IsWorkOn, IsSomeWork, HoldsToo}
use Rattle.gm_build.specs.inner.Steps.{IsStep, no_work, Fits64}
use Rattle.gm_build.specs.declared.tier.TierOutcome.{TierOutcome}
use Rattle.gm_build.specs.declared.tier.TierOutcome.TheVariants.{Reused, Migrated}
use Rattle.gm_build.specs.declared.work.Work.{Work}
use Rattle.std.proofs.lemmas.List.{take_all}
use Rattle.gm_build.proofs.StoreLemmas.{text_as_before, old_as_before, texts_more, others_more, holds_more}
use Rattle.gm_build.proofs.WorkLemmas.{work_none, work_more, some_none, some_more, deliveries_few}

pub record IsSoFar (r : Rules) (Keeps Reads : Type 0) (start now : Texts) (entries : List TableData) (front : List ℕ) (work : Work) : Type 0 where
  pub held : HoldsExactly entries front
  pub some_work : IsSomeWork r front work
  pub work_on : Reads → IsWorkOn r front (HasText r start) (HasOldText r start) work
  pub texts : Keeps → HaveTexts r now front
  pub others : Reads → KeepsOthers front start now
  pub all : work.solved + work.reused + work.migrated ≡ length front
  pub few : work.deliveries ≤ MOVES * TIER_SIZE * length front

-- before the first one
pub so_far_none : (r : Rules) (Keeps Reads : Type 0) (start : Texts) → IsSoFar r Keeps Reads start start [] [] no_work
so_far_none r Keeps Reads start = record {
  held = λ t. (λ h. absurd (let none : ⊥ = cc in none), λ h. absurd (contains_none t h));
  some_work = some_none r;
  work_on = λ _. work_none r (HasText r start) (HasOldText r start);
  texts = λ _ t h. absurd (contains_none t h);
  others = λ _ t _. refl;
  all = refl;
  few = omega arith;
}

-- the numbers fit, since there are few tiers
pub so_far_fits : (r : Rules) (Keeps Reads : Type 0) (start now : Texts) (entries : List TableData) (front : List ℕ) (work : Work)
    → IsSoFar r Keeps Reads start now entries front work → length front ≤ TIERS → Fits64 work
so_far_fits r Keeps Reads start now entries front work so short =
    let all = so.all in
    let few = so.few in
    let hand = so.some_work.among_all.few_by_hand in
    record { solved = omega arith; reused = omega arith; migrated = omega arith; deliveries = omega arith; by_hand = omega arith }

-- when the first tiers are all of the order
pub so_far_all : {r : Rules} {Keeps Reads : Type 0} {start now : Texts} {entries : List TableData} {tiers order : List ℕ} {k : ℕ} {work : Work}
    → IsSoFar r Keeps Reads start now entries (take k tiers) work → length tiers ≤ k → tiers ≡ order → IsSoFar r Keeps Reads start now entries order work
so_far_all {r} {Keeps} {Reads} {start} {now} {entries} {tiers} {order} {k} {work} so whole is =
    subst (λ (front : List ℕ). IsSoFar r Keeps Reads start now entries front work) (take_all k tiers whole ∙ is) so

-- one more tier is counted once
all_more : (w : Work) (outcome : TierOutcome) (n : ℕ) → w.solved + w.reused + w.migrated ≡ n
    → (with_tier w outcome).solved + (with_tier w outcome).reused + (with_tier w outcome).migrated ≡ n + 1
all_more w Reused n e = omega arith
all_more w Migrated n e = omega arith
all_more w (Solved report) n e = omega arith

few_more : (r : Rules) → IsGame r → (w : Work) (tier : ℕ) (outcome : TierOutcome) (n : ℕ) → r.tier_size tier ≤ TIER_SIZE → IsStepWork r tier outcome
    → w.deliveries ≤ MOVES * TIER_SIZE * n → (with_tier w outcome).deliveries ≤ MOVES * TIER_SIZE * (n + 1)
few_more r laws w tier Reused n small took few = omega arith
few_more r laws w tier Migrated n small took few = omega arith
few_more r laws w tier (Solved report) n small took few = let most = deliveries_few r laws tier report.deliveries small took.0 in omega arith

-- after one more
module _ (r : Rules) (laws : IsGame r) (Keeps Reads : Type 0) (reads_of : Keeps → Reads) (start old new : Texts) (before after : List TableData)
    (front : List ℕ) (tier : ℕ)
    (fresh : Contains front tier → ⊥) (work : Work) (so : IsSoFar r Keeps Reads start old before front work)
    (held : HoldsToo tier before after) (text : Keeps → HasText r new tier) (same : Reads → AreSameBut tier old new) where
  -- the tier's entry was as at the start
  step_then : Reads → (outcome : TierOutcome) → IsStep r old tier outcome → IsStep r start tier outcome
  step_then reads outcome step =
      let text_then = text_as_before r front tier fresh start old (so.others reads) in
      let old_then = old_as_before r front tier fresh start old (so.others reads) in
      done_as outcome step text_then old_then where
        done_as : (outcome : TierOutcome) → IsStep r old tier outcome → HasText r start tier ↔ HasText r old tier → HasOldText r start tier ↔ HasOldText r old tier
            → IsStep r start tier outcome
        done_as Reused s a b = (a.1 s.0, λ h. s.1 (b.0 h))
        done_as Migrated s a b = (b.1 s.0, λ h. s.1 (a.0 h))
        done_as (Solved report) s a b = (λ h. s.0 (a.0 h), λ h. s.1 (b.0 h))

  pub so_far_more : (outcome : TierOutcome) → (Reads → IsStep r old tier outcome) → IsStepWork r tier outcome → r.tier_size tier ≤ TIER_SIZE
      → IsSoFar r Keeps Reads start new after (front ++ tier ∷ []) (with_tier work outcome)
  so_far_more outcome step took small =
      let long : length (front ++ tier ∷ []) ≡ length front + 1 = length-append front (tier ∷ []) in
      record {
        held = holds_more before after front tier so.held held;
        some_work = some_more r front tier fresh work so.some_work outcome took;
        work_on = λ reads. work_more r front tier fresh (HasText r start) (HasText r start) (HasOldText r start) (HasOldText r start) (λ t i. (λ h. h, λ h. h))
            (λ t i. (λ h. h, λ h. h)) work (so.work_on reads) outcome (step_then reads outcome (step reads)) took;
        texts = λ keeps. texts_more r front tier fresh old new (so.texts keeps) (same (reads_of keeps)) (text keeps);
        others = λ reads. others_more r front tier fresh start old new (so.others reads) (same reads);
        all = rw long (all_more work outcome (length front) so.all);
        few = rw long (few_more r laws work tier outcome (length front) small took so.few);
      }
