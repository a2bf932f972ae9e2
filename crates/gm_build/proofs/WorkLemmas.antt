-- How the numbers of a build grow, tier by tier.
use Rattle.gm_build.proofs.Lower.{◌≡◌, ℕ, ◌+◌, ◌≤◌, ◌↔◌, inl, inr, List, [], ◌∷◌, ◌++◌, refl, ap, sym, subst, ◌∙◌, arith, Contains, Rules, IsStepWork, with_tier, Solved}
use Rattle.std.proofs.Common.{map, ◌*◌}
use Rattle.std.proofs.lemmas.List.Elements.{Contains-append_left, Contains-push, Contains-push_cases}
use Rattle.gm_game.specs.declared.limits.TheConstants.{MOVES, TIER_SIZE}
use Rattle.gm_game.specs.declared.position.Position.{Position}
use Rattle.gm_game.specs.Laws.{IsGame}
use Rattle.gm_game.proofs.Lists.{contains_none, contains_first, contains_cases, map_from, map_in}
use Rattle.gm_table.specs.Solving.{AreDeliveries, IsDelivery}
use Rattle.gm_build.specs.Work.{IsWorkOn, IsSomeWork, IsSolvedTier, IsSolvedDelivery}
use Rattle.gm_build.specs.inner.Steps.{IsDoneBy, no_work}
use Rattle.gm_build.specs.declared.tier.TierOutcome.{TierOutcome}
use Rattle.gm_build.specs.declared.tier.TierOutcome.TheVariants.{Reused, Migrated}
use Rattle.gm_build.specs.declared.work.Work.{Work}
use Rattle.std.proofs.lemmas.List.{length-map}
use Rattle.gm_game.specs.Numbers.{AreThere}
use Rattle.gm_table.proofs.Distinct.{no_repeats_from, no_repeats_to, no_repeats_map}
use Rattle.gm_frontier.proofs.CountLemmas.{pairs_few}
use Rattle.gm_immediate.proofs.Deliveries.{there_sum, there_same, there_none}

-- one tier
there_one : (tier : ℕ) → AreThere 1 (λ (t : ℕ). tier ≡ t)
there_one tier = (
  tier ∷ [],
  refl,
  record {
    each = λ t. (
      λ e. subst (Contains (tier ∷ [])) e (contains_first tier []),
      λ h. elim (contains_cases tier t [] h) [ inl e ↦ e | inr i ↦ absurd (contains_none t i) ],
    );
    once = no_repeats_to (tier ∷ []) (λ h. contains_none tier h, tt);
  },
)

-- the deliveries of one tier, told with it
abbrev IsDeliveryOf : Rules → ℕ → ℕ × (Position × ℕ) → Type 0
IsDeliveryOf r tier d = (tier ≡ d.0) × IsDelivery r d.0 d.1

paired : ℕ → Position × ℕ → ℕ × (Position × ℕ)
paired tier pair = (tier, pair)

there_of_tier : (r : Rules) (tier n : ℕ) → AreDeliveries r tier n → AreThere n (IsDeliveryOf r tier)
unfolding paired
there_of_tier r tier n (xs, count, a) = (
  map (paired tier) xs,
  length-map xs (paired tier) ∙ count,
  record {
    each = λ (d : ℕ × (Position × ℕ)). (
      λ k. subst (λ (u : ℕ). Contains (map (paired tier) xs) (u, d.1)) k.0
          (map_from (paired tier) xs d.1 ((a.each d.1).0 (subst (λ (u : ℕ). IsDelivery r u d.1) (sym k.0) k.1))),
      λ h. (let (p, has, e) = map_in (paired tier) xs d h in (
        ap (λ (x : ℕ × (Position × ℕ)). x.0) e,
        subst (λ (x : ℕ × (Position × ℕ)). IsDelivery r x.0 x.1) e ((a.each p).1 has),
      )),
    );
    once = no_repeats_to (map (paired tier) xs) (no_repeats_map (paired tier) xs (λ x y i j e. ap (λ (z : ℕ × (Position × ℕ)). z.1) e)
        (no_repeats_from xs a.once));
  },
)

-- a tier has so many deliveries at most
pub deliveries_few : (r : Rules) → IsGame r → (tier n : ℕ) → r.tier_size tier ≤ TIER_SIZE → AreDeliveries r tier n → n ≤ MOVES * TIER_SIZE
deliveries_few r laws tier n small (xs, count, a) =
    let few = pairs_few r laws tier xs (no_repeats_from xs a.once) (λ p h. ((a.each p).1 h).is_parent) in omega arith

-- nothing is done with no tiers
pub work_none : (r : Rules) (IsReused IsMigrated : ℕ → Type 0) → IsWorkOn r [] IsReused IsMigrated no_work
work_none r IsReused IsMigrated = record {
  those_solved = there_none (λ (t : ℕ). Contains [] t × IsSolvedTier IsReused IsMigrated t) (λ t k. contains_none t k.0);
  those_reused = there_none (λ (t : ℕ). Contains [] t × IsReused t) (λ t k. contains_none t k.0);
  those_migrated = there_none (λ (t : ℕ). Contains [] t × IsMigrated t) (λ t k. contains_none t k.0);
  those_delivered = there_none (IsSolvedDelivery r [] (IsSolvedTier IsReused IsMigrated)) (λ d k. contains_none d.0 k.there);
  few_by_hand = omega arith;
}

-- the tiers of a kind, with one tier more, where those before it are of the kind as before
module _ (front : List ℕ) (tier : ℕ) (fresh : Contains front tier → ⊥) (Was Is : ℕ → Type 0) (same : (t : ℕ) → Contains front t → Was t ↔ Is t) where
  there_before : (t : ℕ) → Contains front t → Contains (front ++ tier ∷ []) t
  there_before t i = Contains-append_left front (tier ∷ []) t i

  there_last : (t : ℕ) → tier ≡ t → Contains (front ++ tier ∷ []) t
  there_last t e = subst (Contains (front ++ tier ∷ [])) e (Contains-push front tier)

  not_before : (t : ℕ) → Contains front t → tier ≡ t → ⊥
  not_before t i e = fresh (subst (Contains front) (sym e) i)

  kind_more : (n : ℕ) → AreThere n (λ (t : ℕ). Contains front t × Was t) → Is tier → AreThere (n + 1) (λ (t : ℕ). Contains (front ++ tier ∷ []) t × Is t)
  kind_more n those is =
      there_sum n 1 (λ (t : ℕ). Contains front t × Was t) (λ (t : ℕ). tier ≡ t) (λ (t : ℕ). Contains (front ++ tier ∷ []) t × Is t) those (there_one tier)
      (λ t k e. not_before t k.0 e) (λ t. (
        λ m. elim (Contains-push_cases front tier t m.0) [ inl i ↦ inl (i, (same t i).1 m.1) | inr e ↦ inr e ],
        λ o. elim o [ inl k ↦ (there_before t k.0, (same t k.0).0 k.1) | inr e ↦ (there_last t e, subst Is e is) ],
      ))

  kind_same : (n : ℕ) → AreThere n (λ (t : ℕ). Contains front t × Was t) → (Is tier → ⊥) → AreThere n (λ (t : ℕ). Contains (front ++ tier ∷ []) t × Is t)
  kind_same n those none =
      there_same n (λ (t : ℕ). Contains front t × Was t) (λ (t : ℕ). Contains (front ++ tier ∷ []) t × Is t) those (λ t. (
        λ m. elim (Contains-push_cases front tier t m.0) [ inl i ↦ (i, (same t i).1 m.1) | inr e ↦ absurd (none (subst Is (sym e) m.1)) ],
        λ k. (there_before t k.0, (same t k.0).0 k.1),
      ))

  -- and their deliveries
  delivered_more : (r : Rules) (n more : ℕ) → AreThere n (IsSolvedDelivery r front Was) → Is tier → AreDeliveries r tier more
      → AreThere (n + more) (IsSolvedDelivery r (front ++ tier ∷ []) Is)
  delivered_more r n more those is are =
      there_sum n more (IsSolvedDelivery r front Was) (IsDeliveryOf r tier) (IsSolvedDelivery r (front ++ tier ∷ []) Is) those (there_of_tier r tier more are)
      (λ d k e. not_before d.0 k.there e.0) (λ d. (
        λ m. elim (Contains-push_cases front tier d.0 m.there) [
          | inl i ↦ inl (record { there = i; solved = (same d.0 i).1 m.solved; delivery = m.delivery })
          | inr e ↦ inr (e, m.delivery)
        ],
        λ o. elim o [
          | inl k ↦ record { there = there_before d.0 k.there; solved = (same d.0 k.there).0 k.solved; delivery = k.delivery }
          | inr e ↦ record { there = there_last d.0 e.0; solved = subst Is e.0 is; delivery = e.1 }
        ],
      ))

  delivered_same : (r : Rules) (n : ℕ) → AreThere n (IsSolvedDelivery r front Was) → (Is tier → ⊥) → AreThere n (IsSolvedDelivery r (front ++ tier ∷ []) Is)
  delivered_same r n those none =
      there_same n (IsSolvedDelivery r front Was) (IsSolvedDelivery r (front ++ tier ∷ []) Is) those (λ d. (
        λ m. elim (Contains-push_cases front tier d.0 m.there) [
          | inl i ↦ record { there = i; solved = (same d.0 i).1 m.solved; delivery = m.delivery }
          | inr e ↦ absurd (none (subst Is (sym e) m.solved))
        ],
        λ k. record { there = there_before d.0 k.there; solved = (same d.0 k.there).0 k.solved; delivery = k.delivery },
      ))

-- one tier more, where those before it were reused and migrated as before
module _ (r : Rules) (front : List ℕ) (tier : ℕ) (fresh : Contains front tier → ⊥) (WasReused IsReused WasMigrated IsMigrated : ℕ → Type 0)
    (reused_as : (t : ℕ) → Contains front t → WasReused t ↔ IsReused t) (migrated_as : (t : ℕ) → Contains front t → WasMigrated t ↔ IsMigrated t)
    (w : Work) (work : IsWorkOn r front WasReused WasMigrated w) where
  solved_as : (t : ℕ) → Contains front t → IsSolvedTier WasReused WasMigrated t ↔ IsSolvedTier IsReused IsMigrated t
  solved_as t i = (
    λ n. (λ p. n.0 ((reused_as t i).1 p), λ p. n.1 ((migrated_as t i).1 p)),
    λ n. (λ p. n.0 ((reused_as t i).0 p), λ p. n.1 ((migrated_as t i).0 p)),
  )

  pub work_more : (outcome : TierOutcome) → IsDoneBy IsReused IsMigrated tier outcome → IsStepWork r tier outcome
      → IsWorkOn r (front ++ tier ∷ []) IsReused IsMigrated (with_tier w outcome)
  work_more Reused is took = record {
    those_solved = kind_same front tier fresh (IsSolvedTier WasReused WasMigrated) (IsSolvedTier IsReused IsMigrated)
        solved_as w.solved work.those_solved (λ n. n.0 is.0);
    those_reused = kind_more front tier fresh WasReused IsReused reused_as w.reused work.those_reused is.0;
    those_migrated = kind_same front tier fresh WasMigrated IsMigrated migrated_as w.migrated work.those_migrated is.1;
    those_delivered = delivered_same front tier fresh (IsSolvedTier WasReused WasMigrated) (IsSolvedTier IsReused IsMigrated)
        solved_as r w.deliveries work.those_delivered (λ n. n.0 is.0);
    few_by_hand = work.few_by_hand;
  }
  work_more Migrated is took = record {
    those_solved = kind_same front tier fresh (IsSolvedTier WasReused WasMigrated) (IsSolvedTier IsReused IsMigrated)
        solved_as w.solved work.those_solved (λ n. n.1 is.0);
    those_reused = kind_same front tier fresh WasReused IsReused reused_as w.reused work.those_reused is.1;
    those_migrated = kind_more front tier fresh WasMigrated IsMigrated migrated_as w.migrated work.those_migrated is.0;
    those_delivered = delivered_same front tier fresh (IsSolvedTier WasReused WasMigrated) (IsSolvedTier IsReused IsMigrated)
        solved_as r w.deliveries work.those_delivered (λ n. n.1 is.0);
    few_by_hand = work.few_by_hand;
  }
  work_more (Solved report) is took = record {
    those_solved = kind_more front tier fresh (IsSolvedTier WasReused WasMigrated) (IsSolvedTier IsReused IsMigrated)
        solved_as w.solved work.those_solved is;
    those_reused = kind_same front tier fresh WasReused IsReused reused_as w.reused work.those_reused is.0;
    those_migrated = kind_same front tier fresh WasMigrated IsMigrated migrated_as w.migrated work.those_migrated is.1;
    those_delivered = delivered_more front tier fresh (IsSolvedTier WasReused WasMigrated) (IsSolvedTier IsReused IsMigrated)
        solved_as r w.deliveries report.deliveries work.those_delivered is took.0;
    few_by_hand = (let a = work.few_by_hand in let b = took.1 in omega arith);
  }

-- the same, whichever were reused and migrated
pub some_none : (r : Rules) → IsSomeWork r [] no_work
some_none r = record {
  reused_tiers = [];
  migrated_tiers = [];
  among = λ t i. i;
  among_too = λ t i. i;
  apart = λ t i j. contains_none t i;
  among_all = work_none r (Contains []) (Contains []);
}

module _ (r : Rules) (front : List ℕ) (tier : ℕ) (fresh : Contains front tier → ⊥) (work : Work) (w : IsSomeWork r front work) where
  -- some of the tiers before, and this one
  among_more : (some : List ℕ) → ((t : ℕ) → Contains some t → Contains front t) → (t : ℕ) → Contains (some ++ tier ∷ []) t → Contains (front ++ tier ∷ []) t
  among_more some among t i = elim (Contains-push_cases some tier t i) [
    | inl h ↦ Contains-append_left front (tier ∷ []) t (among t h)
    | inr e ↦ subst (Contains (front ++ tier ∷ [])) e (Contains-push front tier)
  ]

  among_as : (some : List ℕ) → (t : ℕ) → Contains front t → Contains some t ↔ Contains (some ++ tier ∷ []) t
  among_as some t i = (
    λ h. Contains-append_left some (tier ∷ []) t h,
    λ h. elim (Contains-push_cases some tier t h) [ inl k ↦ k | inr e ↦ absurd (fresh (subst (Contains front) (sym e) i)) ],
  )

  -- those of some tiers, whatever else they are
  stays : (some : List ℕ) → (t : ℕ) → Contains front t → Contains some t ↔ Contains some t
  stays some t i = (λ h. h, λ h. h)

  pub some_more : (outcome : TierOutcome) → IsStepWork r tier outcome → IsSomeWork r (front ++ tier ∷ []) (with_tier work outcome)
  some_more Reused took = record {
    reused_tiers = w.reused_tiers ++ tier ∷ [];
    migrated_tiers = w.migrated_tiers;
    among = among_more w.reused_tiers w.among;
    among_too = λ t i. Contains-append_left front (tier ∷ []) t (w.among_too t i);
    apart = λ t i j. elim (Contains-push_cases w.reused_tiers tier t i)
        [ inl h ↦ w.apart t h j | inr e ↦ fresh (subst (Contains front) (sym e) (w.among_too t j)) ];
    among_all = work_more r front tier fresh (Contains w.reused_tiers) (Contains (w.reused_tiers ++ tier ∷ [])) (Contains w.migrated_tiers)
        (Contains w.migrated_tiers) (among_as w.reused_tiers) (stays w.migrated_tiers) work w.among_all Reused
        (Contains-push w.reused_tiers tier, λ h. fresh (w.among_too tier h)) took;
  }
  some_more Migrated took = record {
    reused_tiers = w.reused_tiers;
    migrated_tiers = w.migrated_tiers ++ tier ∷ [];
    among = λ t i. Contains-append_left front (tier ∷ []) t (w.among t i);
    among_too = among_more w.migrated_tiers w.among_too;
    apart = λ t i j. elim (Contains-push_cases w.migrated_tiers tier t j)
        [ inl h ↦ w.apart t i h | inr e ↦ fresh (subst (Contains front) (sym e) (w.among t i)) ];
    among_all = work_more r front tier fresh (Contains w.reused_tiers) (Contains w.reused_tiers) (Contains w.migrated_tiers)
        (Contains (w.migrated_tiers ++ tier ∷ [])) (stays w.reused_tiers) (among_as w.migrated_tiers) work w.among_all Migrated
        (Contains-push w.migrated_tiers tier, λ h. fresh (w.among tier h)) took;
  }
  some_more (Solved report) took = record {
    reused_tiers = w.reused_tiers;
    migrated_tiers = w.migrated_tiers;
    among = λ t i. Contains-append_left front (tier ∷ []) t (w.among t i);
    among_too = λ t i. Contains-append_left front (tier ∷ []) t (w.among_too t i);
    apart = w.apart;
    among_all = work_more r front tier fresh (Contains w.reused_tiers) (Contains w.reused_tiers) (Contains w.migrated_tiers) (Contains w.migrated_tiers)
        (stays w.reused_tiers) (stays w.migrated_tiers) work w.among_all (Solved report)
        (λ h. fresh (w.among tier h), λ h. fresh (w.among_too tier h)) took;
  }
