-- The choice among some moves, and one more.
use Rattle.gm_play.proofs.Lower.{◌≡◌, ℕ, ◌<◌, inl, inr, List, [], ◌∷◌, ◌++◌, Option, None, Some, refl, sym, subst, arith, Contains, cases_lt, Position, Value, Lose, Draw, Rules, HasValue, HasValue_once, wanted_from, IsNoFarther, IsBestOf, IsChoice}
use Rattle.gm_play.specs.declared.best_moves.Choice.{Choice}
use Rattle.gm_play.specs.BestMoves.{IsNearer, Considers, Chooses}
use Rattle.std.proofs.lemmas.List.Elements.{Contains-append_left, Contains-push, Contains-push_cases}

-- the order of remotenesses
farther_unless : (value : Value) (k than : ℕ) → (IsNearer value k than → ⊥) → IsNoFarther value than k
farther_unless Lose k than h = elim (cases_lt than k) [ inl l ↦ absurd (h l) | inr l ↦ l ]
farther_unless Draw k than h = tt
farther_unless v k than h = elim (cases_lt k than) [ inl l ↦ absurd (h l) | inr l ↦ l ]

nearer_all : (value : Value) (k than other : ℕ) → IsNearer value k than → IsNoFarther value than other → IsNearer value k other
nearer_all Draw k than other a b = absurd a
nearer_all v k than other a b = omega arith

nearer_no_farther : (value : Value) (k than : ℕ) → IsNearer value k than → IsNoFarther value k than
nearer_no_farther Draw k than a = tt
nearer_no_farther v k than a = omega arith

never_nearer : (value : Value) (k : ℕ) → IsNearer value k k → ⊥
never_nearer Draw k a = a
never_nearer v k a = omega arith

module _ (r : Rules) (p : Position) (value : Value) (front : List ℕ) (m : ℕ) (above : (n : ℕ) → Contains front n → n < m) where
  abbrev Goes : ℕ → ℕ → Type 0
  Goes n k = HasValue r (r.play p n) (wanted_from value) k

  goes_once : (n k l : ℕ) → m ≡ n → Goes m k → Goes n l → k ≡ l
  goes_once n k l e a b = (HasValue_once r (r.play p m) (wanted_from value) (wanted_from value) k l a (subst (λ (x : ℕ). Goes x l) (sym e) b)).1

  -- the choice stays where the move leads no nearer
  best_stays : (c k : ℕ) → IsBestOf r p value front c k → ((l : ℕ) → Goes m l → IsNoFarther value k l) → IsBestOf r p value (front ++ m ∷ []) c k
  best_stays c k b far = record {
    there = Contains-append_left front (m ∷ []) c b.there;
    reaches = b.reaches;
    no_better = λ n l has v. elim (Contains-push_cases front m n has) [
      | inl i ↦ b.no_better n l i v
      | inr e ↦ far l (subst (λ (x : ℕ). Goes x l) (sym e) v)
    ];
    first = λ n has v. elim (Contains-push_cases front m n has) [ inl i ↦ b.first n i v | inr e ↦ (let l = above c b.there in omega arith) ];
  }

  none_kept : ((n k : ℕ) → Contains front n → Goes n k → ⊥) → ((l : ℕ) → Goes m l → ⊥) → (n k : ℕ) → Contains (front ++ m ∷ []) n → Goes n k → ⊥
  none_kept before none n k has v = elim (Contains-push_cases front m n has) [ inl i ↦ before n k i v | inr e ↦ none k (subst (λ (x : ℕ). Goes x k) (sym e) v) ]

  -- the move is chosen where it leads nearer than all before it
  best_new : (k : ℕ) → ((n l : ℕ) → Contains front n → Goes n l → IsNearer value k l) → Goes m k → IsBestOf r p value (front ++ m ∷ []) m k
  best_new k before goes = record {
    there = Contains-push front m;
    reaches = goes;
    no_better = λ n l has v. elim (Contains-push_cases front m n has) [
      | inl i ↦ nearer_no_farther value k l (before n l i v)
      | inr e ↦ subst (IsNoFarther value k) (goes_once n k l e goes v) (farther_unless value k k (never_nearer value k))
    ];
    first = λ n has v. elim (Contains-push_cases front m n has) [ inl i ↦ absurd (never_nearer value k (before n k i v)) | inr e ↦ omega arith ];
  }

  chosen : (best : Option Choice) (c : Choice) (k : ℕ) → IsChoice r p value front best → Goes m k → Chooses value best m k c → IsBestOf r p value
      (front ++ m ∷ []) c.number c.remoteness
  chosen None c k before goes e = rw e (best_new k (λ n l i v. absurd (before n l i v)) goes)
  chosen (Some old) c k b goes (inl (near, e)) = rw e (best_new k (λ n l i v. nearer_all value k old.remoteness l near (b.no_better n l i v)) goes)
  chosen (Some old) c k b goes (inr (far, e)) = rw e (best_stays old.number old.remoteness b
      (λ l v. subst (IsNoFarther value old.remoteness) (goes_once m k l refl goes v) (farther_unless value k old.remoteness far)))

  -- the choice after the move
  pub considered : (best new : Option Choice) → IsChoice r p value front best → Considers r p value m best new → IsChoice r p value (front ++ m ∷ []) new
  considered None new b (inl (e, none)) = rw e (none_kept b none)
  considered (Some c) new b (inl (e, none)) = rw e (best_stays c.number c.remoteness b (λ l v. absurd (none l v)))
  considered best new b (inr (k, c, e, goes, chooses)) = rw e (chosen best c k b goes chooses)
