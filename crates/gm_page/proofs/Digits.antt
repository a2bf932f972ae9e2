-- Digits of an engine.
use Rattle.gm_page.proofs.Lower.{◌≡◌, ℕ, true, List, [], ◌∷◌, inl, inr, ap, subst, refl, cases_Bool}
use Rattle.std.proofs.Common.{not, eqb, eqb-true}
use Rattle.std.specs.List.{list_all}
use Rattle.std.proofs.lemmas.Bool.{and_from, and_parts}
use Rattle.gm_page.specs.Scripts.{opens_none}
use Rattle.gm_page.specs.Engines.{is_digit}

-- a digit opens no tag
digit_opens_none : (b : ℕ) → is_digit b ≡ true → opens_none b ≡ true
digit_opens_none b is = elim (cases_Bool (eqb b 60)) [
  | inl e ↦ absurd (let none : is_digit 60 ≡ true = subst (λ (n : ℕ). is_digit n ≡ true) (eqb-true b 60 e) is in let bad : ⊥ = cc in bad)
  | inr e ↦ ap not e
]

pub digits_open_none : (xs : List ℕ) → list_all is_digit xs ≡ true → list_all opens_none xs ≡ true
digits_open_none [] all = refl
digits_open_none (x ∷ xs) all =
    let (first, others) = and_parts (is_digit x) (list_all is_digit xs) all in
    and_from (opens_none x) (list_all opens_none xs) (digit_opens_none x first) (digits_open_none xs others)
