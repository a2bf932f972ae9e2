-- Rows of counts, with one tier or one count more; the greatest remoteness that is counted.
use Rattle.gm_analyse.proofs.Lower.{◌≡◌, ℕ, ◌≤◌, Bool, true, List, [], ◌∷◌, length, get_or, Option, None, Some, inl, inr, refl, sym, ap, subst, ◌∙◌, arith, REMOTENESS, Position, Solved, Value, Rules, contains_none, Among, IsLastAbove}
use Rattle.std.proofs.Common.{◌<◌, ◌↔◌, IfSome, IsSome}
use Rattle.std.specs.List.{Contains}
use Rattle.std.proofs.lemmas.Bool.{cases_lt}
use Rattle.std.proofs.lemmas.List.{get_or_past}
use Rattle.gm_game.specs.Records.{IsRecord}
use Rattle.gm_game.specs.Values.{IsTrueValue}
use Rattle.gm_game.proofs.Lists.{contains_cases, contains_first, contains_later}
use Rattle.gm_analyse.specs.declared.among.Among.TheVariants.{Canonical, Legal}
use Rattle.gm_analyse.specs.Totals.{IsCounted, IsRecordAmong, IsGreatest, AreNumbers}
use Rattle.gm_table.specs.Tables.{TableData, IsHeld}
use Rattle.gm_find.specs.Lists.{AreThose}

-- the record of a canonical position
pub canonical_among : (r : Rules) (p : Position) (o : Option Solved) → IsRecord r REMOTENESS (IsTrueValue r) p o → IsRecordAmong r Canonical p o
canonical_among r p None h = h
canonical_among r p (Some s) h = h

-- the true value of a legal position of a tier that is held
pub legal_among : (r : Rules) (entries : List TableData) (p : Position) (o : Option Solved) → (IsSome o ↔ ((r.is_legal p ≡ true) × IsHeld entries p.tier)) →
    IsHeld entries p.tier → IfSome o (IsTrueValue r p)
    → IfSome o (λ s. s.remoteness ≤ REMOTENESS) → IsRecordAmong r Legal p o
legal_among r entries p None is held value few = λ legal. let some = is.1 (legal, held) in absurd (cc)
legal_among r entries p (Some s) is held value few = ((is.0 refl).0, value, few)

module _ {A : Type 0} (P : A → Type 0) where
  -- some have the property
  those_some : (xs ys : List A) → AreThose P xs ys → 0 < length ys → (x : A) × Contains xs x × P x
  those_some [] ys h l = let e = ap length h in absurd (omega arith)
  those_some (x ∷ xs) ys (inl (rest, p, e, t)) l = (x, contains_first x xs, p)
  those_some (x ∷ xs) ys (inr (n, t)) l = let (y, has, p) = those_some xs ys t l in (y, contains_later x y xs has, p)

  -- none has it
  those_none : (xs ys : List A) → AreThose P xs ys → length ys ≡ 0 → (x : A) → Contains xs x → P x → ⊥
  those_none [] ys h l x has p = contains_none x has
  those_none (z ∷ zs) ys (inl (rest, p, e, t)) l x has q = let f = ap length e in absurd (omega arith)
  those_none (z ∷ zs) ys (inr (n, t)) l x has q = elim (contains_cases z x zs has) [ inl e ↦ n (subst P (sym e) q) | inr h ↦ those_none zs ys t l x h q ]

-- the last number above 0 is that of the greatest remoteness
module _ (r : Rules) (among : Among) (reached : Bool) (v : Value) (ps : List Position) (numbers : List ℕ) (are : AreNumbers r among reached v ps numbers) where
  no_more : (n : ℕ) (p : Position) → get_or numbers n 0 ≡ 0 → Contains ps p → IsCounted r among reached v n p → ⊥
  no_more n p z has c = let (those, t, l) = are n in those_none (IsCounted r among reached v n) ps those t (l ∙ z) p has c

  past : (n : ℕ) → length numbers ≤ n → get_or numbers n 0 ≡ 0
  past n h = get_or_past numbers n 0 h

  pub greatest_is : (o : Option ℕ) → IsLastAbove numbers (length numbers) o → IsGreatest r among reached v ps o
  greatest_is None h = λ p n has c. no_more n p (elim (cases_lt n (length numbers)) [ inl l ↦ h n l | inr m ↦ past n m ]) has c
  greatest_is (Some k) h =
      let (those, t, l) = are k in
      let some = h.1 in (
        those_some (IsCounted r among reached v k) ps those t (omega arith),
        λ p m has c. elim (cases_lt k m) [
          | inl more ↦ absurd (no_more m p (elim (cases_lt m (length numbers)) [ inl low ↦ h.2 m more low | inr over ↦ past m over ]) has c)
          | inr few ↦ few
        ],
      )
