-- What makes a text plain: each of its characters, and a number in decimal.
use Rattle.gm_game.proofs.Lower.{◌≡◌, ℕ, ◌<◌, ◌≤◌, ◌^◌, true, List, [], ◌∷◌, ◌++◌, map, refl, ◌∙◌, arith, nat_tests}
use Rattle.std.proofs.lemmas.Bool.{and_from}
use Rattle.std.proofs.lemmas.Fmt.{decimal_is_IsNumeral}
use Rattle.std.specs.Fmt.{decimal}
use Rattle.std.specs.Str.Parse.{AllDigits}
use Rattle.std.proofs.lemmas.List.Folds.{list_all-append}
use Rattle.std.proofs.lemmas.Str.Parse.{digit_from_value}
use Rattle.gm_game.specs.Shown.{is_plain, IsPlain}

pub plain_in : (c : ℕ) → 32 ≤ c → c ≤ 126 → is_plain c ≡ true
plain_in c low high = grind (arith, nat_tests)

pub plain_append : (xs ys : List ℕ) → IsPlain xs → IsPlain ys → IsPlain (xs ++ ys)
plain_append xs ys h k = list_all-append is_plain xs ys ∙ and_from _ _ h k

-- a text with a plain character for each element
pub plain_map : {X : Type 0} (f : X → ℕ) → ((x : X) → is_plain (f x) ≡ true) → (xs : List X) → IsPlain (map f xs)
plain_map f h [] = refl
plain_map f h (x ∷ xs) = and_from _ _ (h x) (plain_map f h xs)

digits_plain : (ds : List ℕ) → AllDigits 10 ds → IsPlain ds
digits_plain [] h = refl
digits_plain (d ∷ ds) h = let (low, high) = digit_from_value d h.0 in and_from _ _ (plain_in d (omega arith) (omega arith)) (digits_plain ds h.1)

-- a number in decimal
pub plain_decimal : (n : ℕ) → n < 2 ^ 64 → IsPlain (decimal n)
plain_decimal n l = digits_plain (decimal n) (decimal_is_IsNumeral n l).0.1
