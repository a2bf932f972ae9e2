use Rattle.gm_table.proofs.Lower.{◌≡◌, ℕ, ◌<◌, ◌==◌, if◌then◌else◌, List, Some, arith, refl, sym, ap, subst, ◌∙◌, length, get_or, TableData, AreKept, IsTable, table_of}
use Rattle.std.specs.List.{slice_set}
use Rattle.gm_table.specs.Tables.{IsFirstPlaceOf}
use Rattle.gm_table.proofs.TableLemmas.{at_none, kept_length, kept_set, table_set}
use Rattle.gm_table.proofs.tables.Tables.insert.Goals as goal

pub index_mut-requires : goal.index_mut-requires
index_mut-requires g c =
    let ns = c.self.inside.tiers.items in
    let place = subst (λ (xs : List ℕ). IsFirstPlaceOf xs c.tier-tier.result c.in-Some.k) c.as_slice.ensures.value c.in-Some.ensures.some in
    let same = kept_length g.G.Game.rules ns c.self.inside.entries.items c.self.invariant in
    let long = c.self.inside.entries.ok.0 in
    let inside = place.inside in
    omega arith

pub add-requires-clause-none : goal.add-requires-clause-none
add-requires-clause-none g c =
    let tier = c.tier-tier.result in
    let missing = subst (λ (xs : List ℕ). (j : ℕ) → j < length xs → get_or xs j 0 ≡ tier → ⊥) c.as_slice.ensures.value (c.in-None.ensures.none refl) in
    rw (sym c.self.view_is) (at_none g.G.Game.rules c.self.inside.tiers.items c.self.inside.entries.items c.self.invariant tier missing)

pub invariant_of-self : goal.invariant_of-self
invariant_of-self g c =
    let r = g.G.Game.rules in
    let ns = c.self.inside.tiers.items in
    let t = c.args.table in
    let place = subst (λ (xs : List ℕ). IsFirstPlaceOf xs c.tier-tier.result c.in-Some.k) c.as_slice.ensures.value c.in-Some.ensures.some in
    rw c.in_ok-entry.ensures.ok
    (kept_set r ns c.self.inside.entries.items t c.self.invariant c.tier-tier.ensures.table c.in-Some.k place.inside
    (place.here ∙ c.tier-tier.ensures.value))

pub returns-in-Some-clause-ok : goal.returns-in-Some-clause-ok
returns-in-Some-clause-ok g c tier =
    let r = g.G.Game.rules in
    let ns = c.self.inside.tiers.items in
    let ts = c.self.inside.entries.items in
    let t = c.args.table in
    let k = c.in-Some.k in
    let place = subst (λ (xs : List ℕ). IsFirstPlaceOf xs c.tier-tier.result k) c.as_slice.ensures.value c.in-Some.ensures.some in
    let first = subst (λ (n : ℕ). (j : ℕ) → j < k → get_or ns j 0 ≡ n → ⊥) c.tier-tier.ensures.value place.first in
    let now = table_set r ns ts t c.self.invariant k place.inside (place.here ∙ c.tier-tier.ensures.value) first tier in
    subst (λ (old : List TableData). table_of (slice_set ts k c.in_ok-entry.entry) tier ≡ (if t.tier == tier then Some t else table_of old tier)) c.self.view_is
    (rw c.in_ok-entry.ensures.ok now)
