-- Short forms one after the other.
use Rattle.gm_table.proofs.Lower.{◌≡◌, ℕ, zero, suc, List, ◌∷◌, ◌++◌, map, take, replicate, refl, ap, sym, ◌∙◌, map-append, wide}
use Rattle.std.proofs.lemmas.List.{take-map}

-- the first numbers are those of the first short forms
pub take_wide : (n : ℕ) (xs : List ℕ) → map wide (take n xs) ≡ take n (map wide xs)
take_wide n xs = sym (take-map wide n xs)

-- no record's number is that of zeros
pub wide_zeros : (n : ℕ) → map wide (replicate n 0) ≡ replicate n 0
wide_zeros zero = refl
wide_zeros (suc n) = ap (λ (xs : List ℕ). 0 ∷ xs) (wide_zeros n)

-- zeros behind short forms
pub wide_more_zeros : (n : ℕ) (xs : List ℕ) → map wide (xs ++ replicate n 0) ≡ map wide xs ++ replicate n 0
wide_more_zeros n xs = map-append wide xs (replicate n 0) ∙ ap (λ (ys : List ℕ). map wide xs ++ ys) (wide_zeros n)
