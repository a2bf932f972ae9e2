-- Counts of the positions of tiers, with one value and remoteness or one position more.
use Rattle.gm_analyse.proofs.Lower.{◌≡◌, ℕ, ◌+◌, inl, inr, Bool, List, [], ◌∷◌, ◌++◌, length, get_or, refl, sym, ap, ◌∙◌, subst, Position, Value, Rules, Among, Count, all_positions, AreCountsBefore}
use Rattle.std.proofs.Common.{◌⊎◌, Result, Ok, Err, OnOk}
use Rattle.std.proofs.lemmas.Bool.{cases_eq}
use Rattle.gm_game.proofs.Basic.{HasValue_once}
use Rattle.gm_game.specs.declared.position.Solved.{Solved}
use Rattle.gm_analyse.specs.declared.numbers.Numbers.{Numbers}
use Rattle.gm_analyse.specs.Numbers.{value_rank}
use Rattle.gm_analyse.specs.Totals.{IsCounted, IsNumber, AreCounts, AreAllNumbers, numbers_for, AreNumbers}
use Rattle.std.proofs.lemmas.List.{length-append}
use Rattle.gm_find.proofs.ListLemmas.{those_once, those_push, those_skip}
use Rattle.gm_analyse.proofs.CountLists as lists
use Rattle.gm_analyse.proofs.CountLists.{rank_once}

value_cases : (v w : Value) → (v ≡ w) ⊎ (v ≡ w → ⊥)
value_cases v w = elim (cases_eq (value_rank v) (value_rank w)) [ inl e ↦ inl (rank_once v w e) | inr d ↦ inr (λ e. d (ap value_rank e)) ]

module _ (r : Rules) (among : Among) (reached : Bool) (ps : List Position) where
  abbrev pub Num : Value → ℕ → ℕ → Type 0
  Num v k n = IsNumber r among reached ps v k n

  pub num_once : (v : Value) (k a b : ℕ) → Num v k a → Num v k b → a ≡ b
  num_once v k a b (xs, t, e) (ys, u, f) = sym e ∙ ap length (those_once (IsCounted r among reached v k) ps xs ys t u) ∙ f

-- all values are done
pub all_counts : (r : Rules) (among : Among) (reached : Bool) (tiers : List ℕ) (cs : List Count) → AreCountsBefore (Num r among reached (all_positions r tiers)) 4 0 cs
    → AreCounts r among reached tiers cs
all_counts r among reached tiers cs h = record {
  ordered = h.ordered;
  exact = lists.all_counts (Num r among reached (all_positions r tiers)) (num_once r among reached (all_positions r tiers)) cs h;
}

-- one position more, which is counted or not
pub numbers_with : (r : Rules) (among : Among) (reached : Bool) (v : Value) (seen : List Position) (p : Position) (k : ℕ) (old new : List ℕ) → IsCounted r
    among reached v k p → get_or new k 0 ≡ get_or old k 0 + 1 → ((n : ℕ) → (n ≡ k → ⊥) → get_or new n 0 ≡ get_or old n 0)
    → AreNumbers r among reached v seen old → AreNumbers r among reached v (seen ++ p ∷ []) new
numbers_with r among reached v seen p k old new counted here elsewhere h n = elim (cases_eq n k) [
  | inl e ↦ (
      let (those, t, l) = h n in
      let is : IsCounted r among reached v n p = subst (λ (j : ℕ). IsCounted r among reached v j p) (sym e) counted in
      let more : get_or new n 0 ≡ get_or old n 0 + 1 = subst (λ (j : ℕ). get_or new j 0 ≡ get_or old j 0 + 1) (sym e) here in
      (those ++ p ∷ [], those_push (IsCounted r among reached v n) seen those p t is, length-append those (p ∷ []) ∙ ap (λ (j : ℕ). j + 1) l ∙ sym more))
  | inr d ↦ (
      let (those, t, l) = h n in
      (those, those_skip (IsCounted r among reached v n) seen those p t (λ c. d (HasValue_once r p v v n k c.value counted.value).1), l ∙ sym (elsewhere n d)))
]

pub numbers_without : (r : Rules) (among : Among) (reached : Bool) (v : Value) (seen : List Position) (p : Position) (old : List ℕ) →
    ((n : ℕ) → IsCounted r among reached v n p → ⊥) → AreNumbers r among reached v seen old → AreNumbers r among reached v (seen ++ p ∷ []) old
numbers_without r among reached v seen p old none h n = let (those, t, l) = h n in
    (those, those_skip (IsCounted r among reached v n) seen those p t (none n), l)

-- one position more, for all values
pub all_with : (r : Rules) (among : Among) (reached : Bool) (seen : List Position) (p : Position) (s : Solved) (old new : Numbers)
    → IsCounted r among reached s.value s.remoteness p
    → get_or (numbers_for s.value new) s.remoteness 0 ≡ get_or (numbers_for s.value old) s.remoteness 0 + 1
    → ((n : ℕ) → (n ≡ s.remoteness → ⊥) → get_or (numbers_for s.value new) n 0 ≡ get_or (numbers_for s.value old) n 0)
    → ((v : Value) → (v ≡ s.value → ⊥) → numbers_for v new ≡ numbers_for v old)
    → AreAllNumbers r among reached seen old → AreAllNumbers r among reached (seen ++ p ∷ []) new
all_with r among reached seen p s old new counted here elsewhere others h v = elim (value_cases v s.value) [
  | inl e ↦ subst (λ (w : Value). AreNumbers r among reached w (seen ++ p ∷ []) (numbers_for w new)) (sym e)
      (numbers_with r among reached s.value seen p s.remoteness (numbers_for s.value old) (numbers_for s.value new) counted here elsewhere (h s.value))
  | inr d ↦ subst (AreNumbers r among reached v (seen ++ p ∷ [])) (sym (others v d))
      (numbers_without r among reached v seen p (numbers_for v old)
      (λ n other. d (HasValue_once r p v s.value n s.remoteness other.value counted.value).0) (h v))
]

pub all_without : (r : Rules) (among : Among) (reached : Bool) (seen : List Position) (p : Position) (numbers : Numbers)
    → ((v : Value) (n : ℕ) → IsCounted r among reached v n p → ⊥) → AreAllNumbers r among reached seen numbers
    → AreAllNumbers r among reached (seen ++ p ∷ []) numbers
all_without r among reached seen p numbers none h v = numbers_without r among reached v seen p (numbers_for v numbers) (none v) (h v)

-- four facts of an Ok
pub all_ok : {T E : Type 0} (x : Result T E) (P Q R S : Type 0) → (P → Q → R → S) → OnOk x P → OnOk x Q → OnOk x R → OnOk x S
all_ok (Ok a) P Q R S f h k l = f h k l
all_ok (Err e) P Q R S f h k l = tt

-- of no positions
pub numbers_none : (r : Rules) (among : Among) (reached : Bool) (numbers : Numbers) → ((v : Value) → numbers_for v numbers ≡ [])
    → AreAllNumbers r among reached [] numbers
numbers_none r among reached numbers none v n = ([], refl, ap (λ (ns : List ℕ). get_or ns n 0) (sym (none v)))
