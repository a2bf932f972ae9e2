-- A list of counts with one value and remoteness more, whatever is counted: so many have a value and remoteness, and only so many.
use Rattle.gm_analyse.proofs.Lower.{◌≡◌, ℕ, suc, ◌≤◌, ◌+◌, inl, inr, List, [], ◌∷◌, ◌++◌, get_or, refl, sym, ap, ◌∙◌, subst, arith, Contains-get_or, Value, contains_none, Count, AreCountsBefore, counted, append_assoc}
use Rattle.std.proofs.Common.{zero, ◌<◌, ◌⊎◌, ◌↔◌, ◌-◌, append-nil}
use Rattle.std.specs.List.{Contains}
use Rattle.std.proofs.lemmas.Bool.{cases_lt}
use Rattle.gm_game.specs.declared.position.Value.TheVariants.{Win, Lose, Draw, Tie}
use Rattle.gm_analyse.specs.Numbers.{value_rank}
use Rattle.std.proofs.lemmas.List.Elements.{Contains-append_left, Contains-push, Contains-push_cases}
use Rattle.std.proofs.lemmas.List.Quantifiers.{all_pairs_push}
use Rattle.gm_analyse.specs.Listing.{ComesBefore, IsCountBefore}

-- values of one rank are the same
value_at : ℕ → Value
value_at zero = Lose
value_at (suc zero) = Draw
value_at (suc (suc zero)) = Tie
value_at (suc (suc (suc n))) = Win

at_rank : (v : Value) → value_at (value_rank v) ≡ v
unfolding value_at
at_rank Lose = refl
at_rank Draw = refl
at_rank Tie = refl
at_rank Win = refl

pub rank_once : (v w : Value) → value_rank v ≡ value_rank w → v ≡ w
rank_once v w e = sym (at_rank v) ∙ ap value_at e ∙ at_rank w

rank_small : (v : Value) → value_rank v < 4
rank_small Lose = omega arith
rank_small Draw = omega arith
rank_small Tie = omega arith
rank_small Win = omega arith

-- the values in their order
rank_listed : (i : ℕ) (d : Value) → i < 4 → value_rank (get_or (Lose ∷ Draw ∷ Tie ∷ Win ∷ []) i d) ≡ i
rank_listed zero d l = refl
rank_listed (suc zero) d l = refl
rank_listed (suc (suc zero)) d l = refl
rank_listed (suc (suc (suc zero))) d l = refl
rank_listed (suc (suc (suc (suc n)))) d l = absurd (omega arith)

count_same : (v w : Value) (j k m n : ℕ) → v ≡ w → j ≡ k → m ≡ n → (let a : Count = record { value = v; remoteness = j; number = m } in a) ≡
    (let b : Count = record { value = w; remoteness = k; number = n } in b)
count_same v w j k m n p q e = cc

before_more : (r k : ℕ) (c : Count) → ComesBefore r (k + 1) c → ComesBefore r k c ⊎ ((value_rank c.value ≡ r) × (c.remoteness ≡ k))
before_more r k c (inl l) = inl (inl l)
before_more r k c (inr h) = elim (cases_lt c.remoteness k) [ inl l ↦ inl (inr (h.0, l)) | inr l ↦ (let b = h.1 in inr (h.0, omega arith)) ]

more_before : (r k : ℕ) (c : Count) → ComesBefore r k c → ComesBefore r (k + 1) c
more_before r k c (inl l) = inl l
more_before r k c (inr h) = let b = h.1 in inr (h.0, omega arith)

none_before : (c : Count) → ComesBefore 0 0 c → ⊥
none_before c (inl l) = omega arith
none_before c (inr h) = let b = h.1 in omega arith

module _ (Num : Value → ℕ → ℕ → Type 0) (num_once : (v : Value) (k a b : ℕ) → Num v k a → Num v k b → a ≡ b) where
  abbrev IsOne : Count → Type 0
  IsOne c = Num c.value c.remoteness c.number × (0 < c.number)

  pub no_counts : AreCountsBefore Num 0 0 []
  no_counts = record { ordered = λ i j d a b. absurd (omega arith); exact = λ c. (λ h. absurd (contains_none c h), λ h. absurd (none_before c h.1)) }

  -- a count of this value and remoteness has their number
  number_is : (v : Value) (k n : ℕ) (c : Count) → IsOne c → value_rank c.value ≡ value_rank v → c.remoteness ≡ k → Num v k n → c.number ≡ n
  number_is v k n c h p q is =
      let here : Num v k c.number = subst (λ (x : Value). Num x k c.number) (rank_once c.value v p) (subst (λ (j : ℕ). Num c.value j c.number) q h.0) in
      num_once v k c.number n here is

  module _ (v : Value) (k : ℕ) (cs : List Count) (old : AreCountsBefore Num (value_rank v) k cs) where
    module _ (n : ℕ) (is : Num v k n) (some : 0 < n) where
      abbrev New : Count
      New = record { value = v; remoteness = k; number = n }

      new_there : (c : Count) → Contains (cs ++ New ∷ []) c → IsOne c × ComesBefore (value_rank v) (k + 1) c
      new_there c h = elim (Contains-push_cases cs New c h) [
        | inl i ↦ (let t = (old.exact c).0 i in (t.0, more_before (value_rank v) k c t.1))
        | inr e ↦ subst (λ (x : Count). IsOne x × ComesBefore (value_rank v) (k + 1) x) e ((is, some), inr (refl, omega arith))
      ]

      new_only : (c : Count) → IsOne c → value_rank c.value ≡ value_rank v → c.remoteness ≡ k → New ≡ c
      new_only c h p q = count_same v c.value k c.remoteness n c.number (sym (rank_once c.value v p)) (sym q) (sym (number_is v k n c h p q is))

      there_new : (c : Count) → IsOne c × ComesBefore (value_rank v) (k + 1) c → Contains (cs ++ New ∷ []) c
      there_new c h = elim (before_more (value_rank v) k c h.1) [
        | inl b ↦ Contains-append_left cs (New ∷ []) c ((old.exact c).1 (h.0, b))
        | inr e ↦ subst (λ (x : Count). Contains (cs ++ New ∷ []) x) (new_only c h.0 e.0 e.1) (Contains-push cs New)
      ]

      -- the next remoteness has a count
      with_count : AreCountsBefore Num (value_rank v) (k + 1) (cs ++ New ∷ [])
      with_count = record {
        ordered = all_pairs_push IsCountBefore cs New old.ordered (λ i d l. ((old.exact (get_or cs i d)).0 (Contains-get_or cs i d l)).1);
        exact = λ c. (new_there c, there_new c);
      }

    -- it has none
    without_count : Num v k 0 → AreCountsBefore Num (value_rank v) (k + 1) cs
    without_count z = record {
      ordered = old.ordered;
      exact = λ c. (
        λ i. (let t = (old.exact c).0 i in (t.0, more_before (value_rank v) k c t.1)),
        λ h. elim (before_more (value_rank v) k c h.1) [
          | inl b ↦ (old.exact c).1 (h.0, b)
          | inr e ↦ absurd (let some = h.0.1 in let m = number_is v k 0 c h.0 e.0 e.1 z in omega arith)
        ],
      );
    }

    -- no later remoteness has one, so the next value follows
    next_up : (c : Count) → ComesBefore (value_rank v) k c → ComesBefore (value_rank v + 1) 0 c
    next_up c (inl l) = inl (omega arith)
    next_up c (inr h) = let e = h.0 in inl (omega arith)

    next_down : (c : Count) → ((n : ℕ) → k ≤ n → Num v n 0) → IsOne c → ComesBefore (value_rank v + 1) 0 c → ComesBefore (value_rank v) k c
    next_down c z h (inl l) = elim (cases_lt (value_rank c.value) (value_rank v)) [
      | inl b ↦ inl b
      | inr b ↦ (
          let e : value_rank c.value ≡ value_rank v = omega arith in
          elim (cases_lt c.remoteness k) [
            | inl j ↦ inr (e, j)
            | inr j ↦ absurd (let some = h.1 in let m = number_is v c.remoteness 0 c h e refl (z c.remoteness j) in omega arith)
          ])
    ]
    next_down c z h (inr b) = let f = b.1 in absurd (omega arith)

    next_value : ((n : ℕ) → k ≤ n → Num v n 0) → AreCountsBefore Num (value_rank v + 1) 0 cs
    next_value z = record {
      ordered = old.ordered;
      exact = λ c. (
        λ i. (let t = (old.exact c).0 i in (t.0, next_up c t.1)),
        λ h. (old.exact c).1 (h.0, next_down c z h.0 h.1),
      );
    }

  -- all counts of a value are added
  one_added : (v : Value) (n k : ℕ) (ns : List ℕ) (old : List Count) (m : ℕ) → m ≡ n → AreCountsBefore Num (value_rank v) k old → Num v k n
      → ((new : List Count) → AreCountsBefore Num (value_rank v) (k + 1) new → AreCountsBefore Num (value_rank v + 1) 0 (new ++ counted v (k + 1) ns))
      → AreCountsBefore Num (value_rank v + 1) 0 (old ++ counted v k (m ∷ ns))
  one_added v n k ns old zero e h is rest = rest old (without_count v k old h (subst (Num v k) (sym e) is))
  one_added v n k ns old (suc m) e h is rest =
      let one : Count = record { value = v; remoteness = k; number = suc m } in
      subst (AreCountsBefore Num (value_rank v + 1) 0) (append_assoc old (one ∷ []) (counted v (k + 1) ns))
      (rest (old ++ one ∷ []) (with_count v k old h (suc m) (subst (Num v k) (sym e) is) (omega arith)))

  all_added : (v : Value) (ns : List ℕ) (k : ℕ) (old : List Count) → AreCountsBefore Num (value_rank v) k old → ((j : ℕ) → Num v (k + j) (get_or ns j 0))
      → AreCountsBefore Num (value_rank v + 1) 0 (old ++ counted v k ns)
  all_added v [] k old h is =
      subst (AreCountsBefore Num (value_rank v + 1) 0) (sym (append-nil old))
      (next_value v k old h (λ n l. (let e : k + (n - k) ≡ n = omega arith in subst (λ (m : ℕ). Num v m 0) e (is (n - k)))))
  all_added v (n ∷ ns) k old h is =
      let e : k + 0 ≡ k = omega arith in
      one_added v n k ns old n refl h (subst (λ (m : ℕ). Num v m n) e (is 0)) (λ new b. all_added v ns (k + 1) new b
      (λ j. (let d : k + suc j ≡ (k + 1) + j = omega arith in subst (λ (m : ℕ). Num v m (get_or ns j 0)) d (is (suc j)))))

  pub value_added : (i : ℕ) (d : Value) → i < 4 → (ms ns : List ℕ) → ms ≡ ns → (old new : List Count) → AreCountsBefore Num i 0 old
      → new ≡ old ++ counted (get_or (Lose ∷ Draw ∷ Tie ∷ Win ∷ []) i d) 0 ms
      → ((j : ℕ) → Num (get_or (Lose ∷ Draw ∷ Tie ∷ Win ∷ []) i d) j (get_or ns j 0)) → AreCountsBefore Num (i + 1) 0 new
  value_added i d l ms ns same old new h e is =
      let v = get_or (Lose ∷ Draw ∷ Tie ∷ Win ∷ []) i d in
      let r : value_rank v ≡ i = rank_listed i d l in
      subst (λ (n : ℕ). AreCountsBefore Num (n + 1) 0 new) r (subst (AreCountsBefore Num (value_rank v + 1) 0)
      (sym (e ∙ ap (λ (ks : List ℕ). old ++ counted v 0 ks) same))
      (all_added v ns 0 old (subst (λ (n : ℕ). AreCountsBefore Num n 0 old) (sym r) h)
      (λ j. (let z : j ≡ 0 + j = omega arith in subst (λ (m : ℕ). Num v m (get_or ns j 0)) z (is j)))))

  -- all values are done
  pub all_counts : (cs : List Count) → AreCountsBefore Num 4 0 cs → (c : Count) → Contains cs c ↔ IsOne c
  all_counts cs h c = (λ i. ((h.exact c).0 i).0, λ w. (h.exact c).1 (w, inl (rank_small c.value)))

-- one number more of a value is there, or is zero
pub one_counted : (v : Value) (k n : ℕ) (ns : List ℕ) (cs : List Count) → 0 < n
    → (cs ++ (record { value = v; remoteness = k; number = n }) ∷ []) ++ counted v (k + 1) ns ≡ cs ++ counted v k (n ∷ ns)
one_counted v k zero ns cs some = absurd (omega arith)
one_counted v k (suc n) ns cs some = append_assoc cs ((record { value = v; remoteness = k; number = suc n }) ∷ []) (counted v (k + 1) ns)
