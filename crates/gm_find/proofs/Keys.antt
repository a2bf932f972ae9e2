-- Pairs of numbers in a set.
use Rattle.gm_find.proofs.Lower.{◌≡◌, ℕ, Bool, true, List, refl, sym, ap, ◌∙◌, subst, eqb-true, Contains}
use Rattle.std.proofs.Common.{nat_eq, eq-eqb, ◌&&◌}
use Rattle.std.specs.List.{list_any}
use Rattle.std.proofs.lemmas.Bool.{and_parts, and_from}
use Rattle.gm_game.proofs.Lists.{any_in, any_from}

-- the test of a key
abbrev pub is_key : ℕ → ℕ → ℕ × ℕ → Bool
is_key t i y = nat_eq t y.0 && nat_eq i y.1

same_pair : (t i : ℕ) (y : ℕ × ℕ) → t ≡ y.0 → i ≡ y.1 → y ≡ (t, i)
same_pair t i y e f = ap (λ (u : ℕ). let p : ℕ × ℕ = (u, y.1) in p) (sym e) ∙ ap (λ (v : ℕ). let p : ℕ × ℕ = (t, v) in p) (sym f)

pub key_found : (t i : ℕ) (ks : List (ℕ × ℕ)) → list_any (is_key t i) ks ≡ true → Contains ks (t, i)
key_found t i ks h =
    let (y, has, e) = any_in (is_key t i) ks h in
    let (a, b) = and_parts (nat_eq t y.0) (nat_eq i y.1) e in
    subst (λ (k : ℕ × ℕ). Contains ks k) (same_pair t i y (eqb-true t y.0 a) (eqb-true i y.1 b)) has

pub key_there : (t i : ℕ) (ks : List (ℕ × ℕ)) → Contains ks (t, i) → list_any (is_key t i) ks ≡ true
key_there t i ks has = any_from (is_key t i) ks (t, i) has (and_from (nat_eq t t) (nat_eq i i) (eq-eqb t t refl) (eq-eqb i i refl))
