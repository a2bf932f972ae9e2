-- Lists of tiers and of their tables, and what is in them.
use Rattle.gm_table.proofs.Lower.{◌≡◌, ℕ, zero, suc, ◌+◌, ◌<◌, ◌==◌, ◌++◌, Bool, true, false, if◌then◌else◌, cond, List, [], ◌∷◌, refl, sym, ap, ◌∙◌, subst, arith, Option, None, Some, ne_eqb, eq-eqb, eqb-true, same_Some, length, get_or, slice_get, Rules, TableData, IsTable, table_of, AreTables, AreKept}
use Rattle.std.specs.List.{slice_set}

pub kept_length : (r : Rules) (ns : List ℕ) (ts : List TableData) → AreKept r ns ts → length ts ≡ length ns
kept_length r [] [] h = refl
kept_length r [] (t ∷ ts) h = absurd h
kept_length r (n ∷ ns) [] h = absurd h
kept_length r (n ∷ ns) (t ∷ ts) h = ap suc (kept_length r ns ts h.2)

-- at the place of a tier is the table that is held for it
pub at_place : (r : Rules) (ns : List ℕ) (ts : List TableData) → AreKept r ns ts → (tier k : ℕ) → k < length ns → get_or ns k 0 ≡ tier
    → ((j : ℕ) → j < k → get_or ns j 0 ≡ tier → ⊥) → table_of ts tier ≡ slice_get ts k
at_place r [] ts h tier k i e f = absurd (omega arith)
at_place r (n ∷ ns) [] h tier k i e f = absurd h
at_place r (n ∷ ns) (t ∷ ts) h tier zero i e f = rw (eq-eqb t.tier tier (h.0 ∙ e)) refl
at_place r (n ∷ ns) (t ∷ ts) h tier (suc k) i e f =
    rw (ne_eqb t.tier tier (λ q. f 0 (omega arith) (sym h.0 ∙ q))) (at_place r ns ts h.2 tier k (omega arith) e (λ j l q. f (suc j) (omega arith) q))

-- a tier that is at no place has no table
pub at_none : (r : Rules) (ns : List ℕ) (ts : List TableData) → AreKept r ns ts → (tier : ℕ) → ((j : ℕ) → j < length ns → get_or ns j 0 ≡ tier → ⊥)
    → table_of ts tier ≡ None
at_none r [] [] h tier f = refl
at_none r [] (t ∷ ts) h tier f = absurd h
at_none r (n ∷ ns) [] h tier f = absurd h
at_none r (n ∷ ns) (t ∷ ts) h tier f =
    rw (ne_eqb t.tier tier (λ q. f 0 (omega arith) (sym h.0 ∙ q))) (at_none r ns ts h.2 tier (λ j l q. f (suc j) (omega arith) q))

-- what is found is a table
held_at : (r : Rules) (t u : TableData) (ts : List TableData) (tier : ℕ) (b : Bool) → (t.tier == tier) ≡ b → IsTable r t →
    ((v : TableData) → table_of ts tier ≡ Some v → (v.tier ≡ tier) × IsTable r v)
    → cond b (Some t) (table_of ts tier) ≡ Some u → (u.tier ≡ tier) × IsTable r u
held_at r t u ts tier true e h k q = let same = same_Some t u q in subst (λ v. (v.tier ≡ tier) × IsTable r v) same (eqb-true t.tier tier e, h)
held_at r t u ts tier false e h k q = k u q

pub kept_tables : (r : Rules) (ns : List ℕ) (ts : List TableData) → AreKept r ns ts → AreTables r ts
kept_tables r ns [] h tier t e = absurd (cc)
kept_tables r [] (t ∷ ts) h tier u q = absurd h
kept_tables r (n ∷ ns) (t ∷ ts) h tier u q = held_at r t u ts tier (t.tier == tier) refl h.1 (kept_tables r ns ts h.2 tier) q

-- a table in the place of another one of its tier
pub kept_set : (r : Rules) (ns : List ℕ) (ts : List TableData) (t : TableData) → AreKept r ns ts → IsTable r t → (k : ℕ) → k < length ns
    → get_or ns k 0 ≡ t.tier → AreKept r ns (slice_set ts k t)
kept_set r [] ts t h q k i e = absurd (omega arith)
kept_set r (n ∷ ns) [] t h q k i e = absurd h
kept_set r (n ∷ ns) (x ∷ ts) t h q zero i e = (sym e, q, h.2)
kept_set r (n ∷ ns) (x ∷ ts) t h q (suc k) i e = (h.0, h.1, kept_set r ns ts t h.2 q k (omega arith) e)

skipped : (b c : Bool) (x t : TableData) (o p : Option TableData) → (b ≡ true → c ≡ false) → p ≡ cond c (Some t) o
    → cond b (Some x) p ≡ cond c (Some t) (cond b (Some x) o)
skipped true c x t o p h e = ap (λ d. cond d (Some t) (Some x)) (sym (h refl))
skipped false c x t o p h e = e

same_tier : (b c : Bool) (x t : TableData) (o : Option TableData) → b ≡ c → cond b (Some t) o ≡ cond b (Some t) (cond c (Some x) o)
same_tier true c x t o e = refl
same_tier false c x t o e = ap (λ d. cond d (Some x) o) e

pub table_set : (r : Rules) (ns : List ℕ) (ts : List TableData) (t : TableData) → AreKept r ns ts → (k : ℕ) → k < length ns → get_or ns k 0 ≡ t.tier
    → ((j : ℕ) → j < k → get_or ns j 0 ≡ t.tier → ⊥) → (u : ℕ)
    → table_of (slice_set ts k t) u ≡ (if t.tier == u then Some t else table_of ts u)
table_set r [] ts t h k i e f u = absurd (omega arith)
table_set r (n ∷ ns) [] t h k i e f u = absurd h
table_set r (n ∷ ns) (x ∷ ts) t h zero i e f u = same_tier (t.tier == u) (x.tier == u) x t (table_of ts u) (ap (λ m. m == u) (sym e ∙ sym h.0))
table_set r (n ∷ ns) (x ∷ ts) t h (suc k) i e f u =
    skipped (x.tier == u) (t.tier == u) x t (table_of ts u) (table_of (slice_set ts k t) u)
    (λ q. ne_eqb t.tier u (λ p. f 0 (omega arith) (sym h.0 ∙ eqb-true x.tier u q ∙ sym p)))
    (table_set r ns ts t h.2 k (omega arith) e (λ j l q. f (suc j) (omega arith) q) u)

-- a table more
pub kept_push : (r : Rules) (ns : List ℕ) (ts : List TableData) (t : TableData) → AreKept r ns ts → IsTable r t → AreKept r (ns ++ t.tier ∷ []) (ts ++ t ∷ [])
kept_push r [] [] t h q = (refl, q, tt)
kept_push r [] (x ∷ ts) t h q = absurd h
kept_push r (n ∷ ns) [] t h q = absurd h
kept_push r (n ∷ ns) (x ∷ ts) t h q = (h.0, h.1, kept_push r ns ts t h.2 q)

none_of : (b : Bool) (x : TableData) (o : Option TableData) → cond b (Some x) o ≡ None → (b ≡ false) × (o ≡ None)
none_of true x o e = absurd (cc)
none_of false x o e = (refl, e)

pub table_push : (ts : List TableData) (t : TableData) → table_of ts t.tier ≡ None → (u : ℕ)
    → table_of (ts ++ t ∷ []) u ≡ (if t.tier == u then Some t else table_of ts u)
table_push [] t e u = refl
table_push (x ∷ ts) t e u =
    let n = none_of (x.tier == t.tier) x (table_of ts t.tier) e in
    skipped (x.tier == u) (t.tier == u) x t (table_of ts u) (table_of (ts ++ t ∷ []) u)
    (λ p. ne_eqb t.tier u (λ same. (let q = eq-eqb x.tier t.tier (eqb-true x.tier u p ∙ sym same) in let m = n.0 in absurd (cc))))
    (table_push ts t n.1 u)
