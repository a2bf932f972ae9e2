use Rattle.gm_table.proofs.Lower.{◌≡◌, ℕ, length, rules, refl, Option, subst, IsFirstWrong}
use Rattle.std.proofs.Common.{MatchOption}
use Rattle.gm_table.specs.Checks.{FitsAt}
use Rattle.gm_table.proofs.ValueLemmas.{true_iff_fit}
use Rattle.gm_table.proofs.VerdictLemmas.{true_no_first}
use Rattle.gm_table.proofs.checker.fault_of.Goals as goal

pub returns-in-Some : goal.returns-in-Some
returns-in-Some g c =
    let r = g.G.Game.rules in
    let entries = c.args.tables.now in
    let records = g.C.Records.listed c.args.records.now in
    let whole : length records ≡ r.tier_size c.args.tier = search rules in
    let first = subst (λ (o : Option ℕ). MatchOption o ((i : ℕ) → FitsAt r entries c.args.tier records i) (IsFirstWrong r entries c.args.tier records))
    c.in-Some.is (c.requires.first whole) in
    let same = true_iff_fit r g.met.G.Game.lawful entries c.truth.ensures c.args.tier records c.requires.children in
    record { none = (λ e. absurd (cc), λ t. absurd (true_no_first r entries c.args.tier records same t c.in-Some.index first)); wrong = (whole, first) }

pub returns-in-None : goal.returns-in-None
returns-in-None g c =
    let r = g.G.Game.rules in
    let entries = c.args.tables.now in
    let records = g.C.Records.listed c.args.records.now in
    let whole : length records ≡ r.tier_size c.args.tier = search rules in
    let fit = subst (λ (o : Option ℕ). MatchOption o ((i : ℕ) → FitsAt r entries c.args.tier records i) (IsFirstWrong r entries c.args.tier records))
    c.in-None.is (c.requires.first whole) in
    let same = true_iff_fit r g.met.G.Game.lawful entries c.truth.ensures c.args.tier records c.requires.children in
    record { none = (λ e. same.1 (record { whole = whole; each = fit }), λ t. refl); wrong = tt }
