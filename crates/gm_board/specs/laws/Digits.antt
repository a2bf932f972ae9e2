-- What follows from the definitions of specs/Digits.antt.
use Rattle.std.proofs.lemmas.Nat.{div-mul-add, mod-mul-add}
use Rattle.std.proofs.Common.{◌≡◌, ℕ, suc, ◌+◌, ◌*◌, ◌<◌, ◌≤◌, List, [], ◌∷◌, length, refl, ap, ap₂, ◌∙◌, arith, mul-le-mul_right}
use Rattle.gm_board.specs.inner.Digits.{radix_size, digits_number, number_digits, AreBelow}

-- a digit with the number of the digits after it is below the product
pub digit_below : (r d s i : ℕ) → d < r → i < s → d * s + i < r * s
digit_below r d s i l k = let h : suc d * s ≤ r * s = mul-le-mul_right s l in omega arith

-- the number that has the digits is below the product of the radices
pub number_below : (rs ds : List ℕ) → length ds ≡ length rs → AreBelow rs ds → digits_number rs ds < radix_size rs
number_below [] ds e h = omega arith
number_below (r ∷ rs) [] e h = absurd (omega arith)
number_below (r ∷ rs) (d ∷ ds) e h =
    digit_below r d (radix_size rs) (digits_number rs ds) (h 0 (omega arith)) (number_below rs ds (omega arith) (λ k l. h (suc k) (omega arith)))

-- the number gives its digits back
pub digits_back : (rs ds : List ℕ) → length ds ≡ length rs → AreBelow rs ds → number_digits rs (digits_number rs ds) ≡ ds
digits_back [] [] e h = refl
digits_back [] (d ∷ ds) e h = absurd (omega arith)
digits_back (r ∷ rs) [] e h = absurd (omega arith)
digits_back (r ∷ rs) (d ∷ ds) e h =
    let below = number_below rs ds (omega arith) (λ k l. h (suc k) (omega arith)) in
    ap₂ (λ (x : ℕ) (xs : List ℕ). x ∷ xs)
    (div-mul-add d (radix_size rs) (digits_number rs ds) below)
    (ap (number_digits rs) (mod-mul-add d (radix_size rs) (digits_number rs ds) below) ∙ digits_back rs ds (omega arith) (λ k l. h (suc k) (omega arith)))
