use Rattle.gamesman.proofs.Lower.{◌≡◌, ℕ, List, Some, Result, Ok, Err, sym, subst, on_ok_weaker}
use Rattle.std.specs.Prelude.{if◌then◌else◌, OnOk, is_ok}
use Rattle.gamesman.specs.Analysing.{IsAnalysisLine}
use Rattle.gm_table.specs.Tables.{table_of}
use Rattle.gamesman.proofs.analyse.push_line.Goals as goal

taken : {T E : Type 0} → (r : Result T E) (new more old : List ℕ) → new ≡ (if is_ok r then more else old) → OnOk r (new ≡ more)
taken (Ok x) new more old e = e
taken (Err y) new more old e = tt

pub returns-in_ok-line-in-Some : goal.returns-in_ok-line-in-Some
returns-in_ok-line-in-Some g c =
    let r = g.G.Game.rules in
    let table = c.in-Some.table.now in
    let text = c.as_bytes.result.now in
    let held : Some table ≡ table_of c.args.tables.now c.args.tier = c.in-Some.ensures.value in
    let of_tier = (c.in-Some.ensures.tables c.args.tier table (sym held)).0 in
    let is : IsAnalysisLine r table.tier text = subst (IsAnalysisLine r table.tier) (sym c.as_bytes.ensures.value) c.in_ok-line-in-Some.ensures in
    on_ok_weaker c.extend_from_slice.result (λ items. (text, subst (λ (t : ℕ). IsAnalysisLine r t text) of_tier is, items))
    (taken c.extend_from_slice.result _ _ _ c.extend_from_slice.ensures.items)
