-- Positions that are passed over.
use Rattle.gm_find.proofs.Lower.{◌≡◌, refl, ℕ, zero, suc, ◌<◌, ◌+◌, ◌-◌, List, [], ◌∷◌, map, sym, subst, arith, range_with_len, Bool, Position, Rules, at, Adds, IsMatch}
use Rattle.std.proofs.Common.{◌≤◌, Bor, IsSome, None, Option, Some, option_copied}
use Rattle.std.proofs.lemmas.List.FromFn.{map-range_with_len_more}
use Rattle.gm_game.specs.Laws.{IsGame}
use Rattle.gm_game.specs.declared.limits.TheConstants.{REMOTENESS}
use Rattle.gm_game.specs.Records.{IsRecord}
use Rattle.gm_game.specs.Values.{IsTrueValue}
use Rattle.gm_table.specs.Tables.{TableData, IsTable, record_at}
use Rattle.gm_table.proofs.ValueLemmas.{record_is}
use Rattle.gm_find.specs.declared.sought.Sought.{Sought}
use Rattle.gm_find.proofs.ListLemmas.{adds_more, adds_none}

-- a copied value is there only if the value is
pub copied_some : {A : Type 0} (o : Option (Bor A)) → IsSome (option_copied o) → IsSome o
copied_some None h = h
copied_some (Some b) h = refl

-- numbers without the property add nothing
pub adds_over : {A : Type 0} (P : A → Type 0) (f : ℕ → A) (limit : ℕ) (old cur : List A) (k n : ℕ)
    → ((j : ℕ) → k ≤ j → j < k + n → P (f j) → ⊥) → Adds P limit (map f (range_with_len 0 k)) old cur → Adds P limit (map f (range_with_len 0 (k + n))) old cur
adds_over {A = A} P f limit old cur k zero none h = let same : k + 0 ≡ k = omega arith in rw same h
adds_over {A = A} P f limit old cur k (suc n) none h =
    let more : k + suc n ≡ k + n + 1 = omega arith in
    let before = adds_over P f limit old cur k n (λ j low high. none j low (omega arith)) h in
    let here = adds_none P limit cur (f (k + n)) (none (k + n) (omega arith) (omega arith)) in
    rw more (subst (λ (xs : List A). Adds P limit xs old cur) (sym (map-range_with_len_more f 0 (k + n) (k + n) (omega arith)))
    (adds_more P limit old cur cur (map f (range_with_len 0 (k + n))) (f (k + n) ∷ []) before here))

-- a hole is no match
pub hole_is_none : (r : Rules) (g : IsGame r) (t : TableData) (q : Sought) (reached : Bool) (j : ℕ) → IsTable r t → record_at t.records j ≡ None
    → IsMatch r q reached (at t.tier j) → ⊥
hole_is_none r g t q reached j is hole m =
    subst (IsRecord r REMOTENESS (IsTrueValue r) (at t.tier j)) hole (record_is r g t j is) m.canonical

-- holes of the table of a tier add nothing
pub holes_add : (r : Rules) (g : IsGame r) (t : TableData) (q : Sought) (reached : Bool) (limit tier from to : ℕ) (old cur : List Position)
    → t.tier ≡ tier → IsTable r t → from ≤ to → ((j : ℕ) → from ≤ j → j < to → record_at t.records j ≡ None)
    → Adds (IsMatch r q reached) limit (map (at tier) (range_with_len 0 from)) old cur
    → Adds (IsMatch r q reached) limit (map (at tier) (range_with_len 0 to)) old cur
holes_add r g t q reached limit tier from to old cur same is order holes h =
    let none : (j : ℕ) → from ≤ j → j < from + (to - from) → IsMatch r q reached (at tier j) → ⊥ =
    λ j low high m. hole_is_none r g t q reached j is (holes j low (omega arith)) (subst (λ n. IsMatch r q reached (at n j)) (sym same) m) in
    let whole : from + (to - from) ≡ to = omega arith in
    subst (λ n. Adds (IsMatch r q reached) limit (map (at tier) (range_with_len 0 n)) old cur) whole
    (adds_over (IsMatch r q reached) (at tier) limit old cur from (to - from) none h)
