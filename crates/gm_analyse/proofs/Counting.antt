-- Numbers of indexes with one index more.
use Rattle.gm_analyse.proofs.Lower.{◌≡◌, ℕ, suc, ◌≤◌, ◌+◌, ◌==◌, Bool, true, false, List, get_or, refl, sym, ap, ◌∙◌, subst, arith, inl, inr, Option, None, Some, Position, Solved, Value, Rules, count_where, number_in}
use Rattle.std.proofs.Common.{zero, if◌then◌else◌, eq-eqb, ne_eqb}
use Rattle.std.proofs.lemmas.Bool.{cases_eq}
use Rattle.std.proofs.lemmas.Option.{same_Some}
use Rattle.gm_game.specs.Records.{IsRecord}
use Rattle.gm_table.specs.Tables.{record_at}
use Rattle.gm_analyse.specs.Numbers.{value_rank, remoteness_in, is_solved}
use Rattle.gm_table.specs.Levels.{is_level}

count_more : (test : ℕ → Bool) (n : ℕ) → count_where test (n + 1) ≡ (if test n then count_where test n + 1 else count_where test n)
count_more test n = let e : n + 1 ≡ suc n = omega arith in rw e refl

one_at_most : (b : Bool) (m n : ℕ) → m ≤ n → (if b then m + 1 else m) ≤ suc n
one_at_most true m n h = omega arith
one_at_most false m n h = omega arith

pub count_le : (test : ℕ → Bool) (n : ℕ) → count_where test n ≤ n
count_le test zero = omega arith
count_le test (suc n) = one_at_most (test n) (count_where test n) n (count_le test n)

-- a record with this value
pub within_limit : (r : Rules) (limit : ℕ) (Is : Position → Solved → Type 0) (p : Position) (v : Value) (o : Option Solved) (m : ℕ) → IsRecord r limit Is p
    o → Some m ≡ remoteness_in v o → m ≤ limit
within_limit r limit Is p v None m h e = absurd (cc)
within_limit r limit Is p v (Some s) m h e = go (value_rank s.value == value_rank v) e
  where
    go : (b : Bool) → Some m ≡ (if b then Some s.remoteness else None) → m ≤ limit
    go true q = let a = same_Some m s.remoteness q in let b = h.2 in omega arith
    go false q = absurd (cc)

module _ (records : List (Option Solved)) (v : Value) (i : ℕ) where
  abbrev Here : Option ℕ
  Here = remoteness_in v (record_at records i)

  number_more : (o : Option ℕ) (n : ℕ) → o ≡ Here → number_in records (i + 1) v n ≡
      (if is_level n o then number_in records i v n + 1 else number_in records i v n)
  number_more o n e = count_more (is_solved records v n) i ∙ ap (λ (w : Option ℕ). if is_level n w then number_in records i v n + 1 else number_in records i
      v n) (sym e)

  -- one more has remoteness m
  pub numbers_with : (m : ℕ) (xs ys : List ℕ) → Some m ≡ Here → ((n : ℕ) → get_or xs n 0 ≡ number_in records i v n) → get_or ys m 0 ≡ get_or xs m 0 + 1
      → ((n : ℕ) → (n ≡ m → ⊥) → get_or ys n 0 ≡ get_or xs n 0) → (n : ℕ) → get_or ys n 0 ≡ number_in records (i + 1) v n
  numbers_with m xs ys e h here elsewhere n = elim (cases_eq n m) [
    | inl s ↦ (
        let more : number_in records (i + 1) v m ≡ number_in records i v m + 1 = number_more (Some m) m e ∙ rw (eq-eqb m m refl) refl in
        subst (λ (k : ℕ). get_or ys k 0 ≡ number_in records (i + 1) v k) (sym s) (here ∙ ap (λ (k : ℕ). k + 1) (h m) ∙ sym more))
    | inr s ↦ elsewhere n s ∙ h n ∙ sym (number_more (Some m) n e ∙ rw (ne_eqb m n (λ z. s (sym z))) refl)
  ]

  -- one more has another value, or none
  pub numbers_without : (xs : List ℕ) → None ≡ Here → ((n : ℕ) → get_or xs n 0 ≡ number_in records i v n) → (n : ℕ) → get_or xs n 0 ≡ number_in records
      (i + 1) v n
  numbers_without xs e h n = h n ∙ sym (number_more None n e)
