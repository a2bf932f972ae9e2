-- Numbers that are written in full.
use Rattle.std.proofs.Common.{◌≡◌, ◌∙◌, ◌<◌, ◌^◌, ◌&&◌, ℕ, Bool, cond, true, false, refl, sym, ap, List, Option, Some, None, nat_lt, lt-ltb, ltb-true}
use Rattle.std.specs.Fmt.{decimal}
use Rattle.std.specs.Str.{bytes_eq}
use Rattle.std.specs.Str.Parse.{digits_value}
use Rattle.std.proofs.lemmas.Fmt.{decimal_is_IsNumeral}
use Rattle.std.proofs.lemmas.Slice.Eq.{bytes_eq-Decides}
use Rattle.gm_command.specs.Reading.{written}
use Rattle.gm_command.proofs.Bools.{both, left, right}

-- a number that is read from its decimal form
pub written_read : (t : List ℕ) (r : Option ℕ) → ((n : ℕ) → (r ≡ Some n → (n < 2 ^ 64) × (decimal n ≡ t)) × ((n < 2 ^ 64) × (decimal n ≡ t) → r ≡ Some n)) → r ≡ written t
written_read t (Some n) h =
    let is = (h n).0 refl in
    let value : digits_value 10 t ≡ n = ap (digits_value 10) (sym is.1) ∙ (decimal_is_IsNumeral n is.0).1 in
    let passes : (bytes_eq (decimal n) t && nat_lt n (2 ^ 64)) ≡ true = both _ _ ((bytes_eq-Decides (decimal n) t).1 is.1) (lt-ltb n (2 ^ 64) is.0) in
    sym (ap (λ (v : ℕ). cond (bytes_eq (decimal v) t && nat_lt v (2 ^ 64)) (Some v) None) value ∙ ap (λ (b : Bool). cond b (Some n) None) passes)
written_read t None h = go (bytes_eq (decimal (digits_value 10 t)) t && nat_lt (digits_value 10 t) (2 ^ 64)) refl
  where
    go : (b : Bool) → (bytes_eq (decimal (digits_value 10 t)) t && nat_lt (digits_value 10 t) (2 ^ 64)) ≡ b → None ≡ cond b (Some (digits_value 10 t)) None
    go true e = (h (digits_value 10 t)).1 (ltb-true _ _ (right _ _ e), (bytes_eq-Decides (decimal (digits_value 10 t)) t).0 (left _ _ e))
    go false e = refl
