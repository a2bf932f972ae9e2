use Rattle.gm_table.proofs.Lower.{◌≡◌, ℕ, ◌++◌, ◌==◌, if◌then◌else◌, List, [], ◌∷◌, None, Some, rules, sym, subst, TableData, AreKept, table_of}
use Rattle.gm_table.proofs.TableLemmas.{kept_push, table_push}
use Rattle.gm_table.proofs.tables.Tables.add.Goals as goal

pub invariant_of-self-in_default : goal.invariant_of-self-in_default
invariant_of-self-in_default g c =
    let r = g.G.Game.rules in
    let before = c.self.inside.tiers.items in
    let tiers : c.push.new.self.items ≡ before ++ c.args.tier ∷ [] = search rules in
    let kept = kept_push r before c.self.inside.entries.items c.args.entry c.self.invariant c.requires.table in
    rw (tiers, c.in_default.ensures.items)
    (subst (λ (n : ℕ). AreKept r (before ++ n ∷ []) (c.self.inside.entries.items ++ c.args.entry ∷ [])) c.requires.tier kept)

pub returns-clause-ok : goal.returns-clause-ok
returns-clause-ok g c tier =
    let old = c.self.inside.entries.items in
    let t = c.args.entry in
    let none : table_of old t.tier ≡ None = rw (c.self.view_is, c.requires.tier) c.requires.none in
    subst (λ (ts : List TableData). table_of c.push-2.new.self.items tier ≡ (if t.tier == tier then Some t else table_of ts tier)) c.self.view_is
    (rw c.in_default.ensures.items (table_push old t none tier))
