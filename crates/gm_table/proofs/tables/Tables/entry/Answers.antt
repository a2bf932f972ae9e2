use Rattle.std.proofs.Common.{Bor, arith, Option, None, Some, IfSome, IsSome, slice_get, option_copied}
use Rattle.std.proofs.lemmas.Option.{slice_get_read}
use Rattle.gm_table.proofs.Lower.{◌≡◌, ℕ, ◌<◌, List, refl, ap, sym, subst, ◌∙◌, length, get_or, AreTables, TableData, table_of}
use Rattle.gm_table.specs.Tables.{IsFirstPlaceOf}
use Rattle.gm_table.proofs.TableLemmas.{at_none, at_place, kept_length, kept_tables}
use Rattle.gm_table.proofs.tables.Tables.entry.Goals as goal

-- what is read at a place inside a list
copied : (o : Option (Bor TableData)) (xs : List TableData) (k : ℕ) → k < length xs → IfSome o (λ x. x.now ≡ get_or xs k x.now) → IsSome o
    → option_copied o ≡ slice_get xs k
copied None xs k i e h = absurd (cc)
copied (Some x) xs k i e h = sym (slice_get_read xs (length xs) k x.now refl i e)

pub returns-clause-value : goal.returns-clause-value
returns-clause-value g c =
    let tiers = c.self.inside.tiers.items in
    let k = c.in_ok-k.k in
    let place = subst (λ (ns : List ℕ). IsFirstPlaceOf ns c.args.tier k) c.as_slice.ensures.value c.in_ok-k.ensures.some in
    let here = at_place g.G.Game.rules tiers c.self.inside.entries.items c.self.invariant c.args.tier k place.inside place.here place.first in
    let ts = c.self.inside.entries.items in
    let all : c.deref.result.now ≡ ts = c.deref.ensures.value in
    let long = kept_length g.G.Game.rules tiers ts c.self.invariant in
    let i = place.inside in
    let inside : k < length c.deref.result.now = rw all (let l : k < length ts = omega arith in l) in
    let read = copied c.get.result c.deref.result.now k inside c.get.ensures.lookup.1 (c.get.ensures.lookup.2 inside) in
    read ∙ ap (λ (xs : List TableData). slice_get xs k) all ∙ sym here ∙ ap (λ (xs : List TableData). table_of xs c.args.tier) c.self.view_is

pub returns-clause-tables : goal.returns-clause-tables
returns-clause-tables g c = subst (AreTables g.G.Game.rules) c.self.view_is
    (kept_tables g.G.Game.rules c.self.inside.tiers.items c.self.inside.entries.items c.self.invariant)

pub returns-in_err-k-clause-value : goal.returns-in_err-k-clause-value
returns-in_err-k-clause-value g c =
    let ns = c.self.inside.tiers.items in
    let ts = c.self.inside.entries.items in
    let missing = subst (λ (xs : List ℕ). (j : ℕ) → j < length xs → get_or xs j 0 ≡ c.args.tier → ⊥) c.as_slice.ensures.value (c.in_err-k.ensures.none refl) in
    let none = at_none g.G.Game.rules ns ts c.self.invariant c.args.tier missing in
    rw (c.from_residual.ensures, sym c.self.view_is, none) refl

pub returns-in_err-k-clause-tables : goal.returns-in_err-k-clause-tables
returns-in_err-k-clause-tables g c = subst (AreTables g.G.Game.rules) c.self.view_is
    (kept_tables g.G.Game.rules c.self.inside.tiers.items c.self.inside.entries.items c.self.invariant)
