-- What is known at the exits of a service.
use Rattle.gm_json.proofs.Lower.{◌≡◌, ℕ, List, [], take, Option, Some, None, sym, subst, Consumes}
use Rattle.std.proofs.Common.{OnOk, Result, Ok, Err, IfErr, OnErr}
use Rattle.std.specs.Io.KnownBytes.{Keeps}
use Rattle.std.specs.Result.{IsErrAnd}

-- an error that is passed on broke what it broke
pub passed : {T E : Type 0} → (r : Result T E) (Q : E → Type 0) (e : E) → IsErrAnd r (λ y. y ≡ e) → Q e → IfErr r Q
passed (Ok x) Q e h q = tt
passed (Err y) Q e h q = subst Q (sym h) q

pub err_map : {T E : Type 0} → (r : Result T E) (P Q : E → Type 0) → ((e : E) → P e → Q e) → IfErr r P → IfErr r Q
err_map (Ok x) P Q f h = tt
err_map (Err e) P Q f h = f e h

pub err_kind : {T E : Type 0} → (r : Result T E) (P S : E → Type 0) (Q : Type 0) → ((e : E) → P e → Q → S e) → IfErr r P → OnErr r Q → IfErr r S
err_kind (Ok x) P S Q f p q = tt
err_kind (Err e) P S Q f p q = f e p q

pub ok_three : {T E : Type 0} → (r : Result T E) (P Q R S : Type 0) → (P → Q → R → S) → OnOk r P → OnOk r Q → OnOk r R → OnOk r S
ok_three (Ok x) P Q R S f p q o = f p q o
ok_three (Err e) P Q R S f p q o = tt

-- a read that gave nothing took nothing
pub none_read : (a b : Option (List ℕ)) (n : ℕ) (buffer : List ℕ) → n ≡ 0 → Consumes a b (take n buffer) → Keeps a b
none_read a b n buffer e h = go a b (subst (λ (k : ℕ). Consumes a b (take k buffer)) e h)
  where
    go : (a b : Option (List ℕ)) → Consumes a b [] → Keeps a b
    go None b p = tt
    go (Some xs) None p = absurd p
    go (Some xs) (Some ys) p = sym p

pub err_both : {T E : Type 0} → (r : Result T E) (P Q S : E → Type 0) → ((e : E) → P e → Q e → S e) → IfErr r P → IfErr r Q → IfErr r S
err_both (Ok x) P Q S f p q = tt
err_both (Err e) P Q S f p q = f e p q
