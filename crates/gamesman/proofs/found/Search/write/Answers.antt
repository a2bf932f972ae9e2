use Rattle.gamesman.proofs.Lower.{◌≡◌, Bool, None, Some, inl, inr, sym, ap, subst, IfOk-weaker, OutOfMemory, game_spec, AreChosen, IsUnsearched}
use Rattle.std.proofs.Common.{ap₂}
use Rattle.gm_command.specs.declared.requests.Report.{Report}
use Rattle.gm_find.specs.declared.sought.Choice.{Choice}
use Rattle.gamesman.specs.Finds.{IsTextOf, IsFoundOf, limit_by_tier}
use Rattle.gamesman.proofs.Answering.{text_told}
use Rattle.gamesman.proofs.Finds.{found_with}
use Rattle.gamesman.proofs.found.Search.write.Goals as goal

pub returns-in-Sheet : goal.returns-in-Sheet
returns-in-Sheet g c =
    let spec = game_spec g.G.Game.rules g.G.Shown.shown g.G.Shown.move_shown g.G.Pictured.picture in
    let r = g.G.Game.rules in
    let asked = c.args.self.now.asked in
    let tiers = c.args.self.now.known.tiers.now in
    let at_once = ap (λ (report : Report). limit_by_tier report asked.choice) (sym c.in-Sheet.is) in
    let told = text_told c.found_sheet-sheet.result (λ v. v.items) (λ e. OutOfMemory e) (IsFoundOf spec asked) (IsUnsearched r asked.tier) _ _ c.put_text.result
    (λ e. tt) (λ e. inr tt)
    (IfOk-weaker c.found_sheet-sheet.result _ _
    (λ v is. (
      tiers,
      c.requires,
      (
        is.found,
        subst (λ (b : Bool). AreChosen r asked.sought b asked.choice tiers is.found) c.args.self.now.is_limited is.are_found,
        subst (λ (report : Report). IsTextOf spec report is.found v.items) (sym c.in-Sheet.is) is.sheet,
      ),
    )) c.found_sheet-sheet.ensures) c.put_text.ensures.put c.put_text.ensures.refused in
    found_with None _ spec asked (IsUnsearched r asked.tier) _ _ c.put_text.result at_once told

pub returns-in-First : goal.returns-in-First
returns-in-First g c =
    let spec = game_spec g.G.Game.rules g.G.Shown.shown g.G.Shown.move_shown g.G.Pictured.picture in
    let asked = c.args.self.now.asked in
    let by_tier = ap₂ (λ (report : Report) (choice : Choice). limit_by_tier report choice) (sym c.in-Lines.is) (sym c.in-First.is) in
    found_with (Some c.in-First.limit) _ spec asked (IsUnsearched g.G.Game.rules asked.tier) _ _ c.write_by_tier.result by_tier c.write_by_tier.ensures

pub returns-in-Random : goal.returns-in-Random
returns-in-Random g c =
    let spec = game_spec g.G.Game.rules g.G.Shown.shown g.G.Shown.move_shown g.G.Pictured.picture in
    let r = g.G.Game.rules in
    let asked = c.args.self.now.asked in
    let tiers = c.args.self.now.known.tiers.now in
    let at_once : None ≡ limit_by_tier asked.report asked.choice = elim c.in-Random.is [
      | inl random ↦ let (n, seed, is) = random in ap₂ (λ (report : Report) (choice : Choice). limit_by_tier report choice) (sym c.in-Lines.is) (sym is)
      | inr (inl sorted) ↦ let (order, n, is) = sorted in ap₂ (λ (report : Report) (choice : Choice). limit_by_tier report choice) (sym c.in-Lines.is) (sym is)
      | inr (inr apart) ↦ let (order, k, n, seed, turn, is) = apart in ap₂ (λ (report : Report) (choice : Choice). limit_by_tier report choice) (sym c.in-Lines.is)
          (sym is)
    ] in
    let told = text_told c.lines_at_once-lines.result (λ v. v.items) (λ e. OutOfMemory e) (IsFoundOf spec asked) (IsUnsearched r asked.tier) _ _
    c.put_text-in-Random.result (λ e. tt) (λ e. inr tt)
    (IfOk-weaker c.lines_at_once-lines.result _ _
    (λ v is. let (xs, are, lines) = is in (
      tiers,
      c.requires,
      (
        xs,
        are,
        subst (λ (report : Report). IsTextOf spec report xs v.items) (sym c.in-Lines.is) lines,
      ),
    )) c.lines_at_once-lines.ensures) c.put_text-in-Random.ensures.put c.put_text-in-Random.ensures.refused in
    found_with None _ spec asked (IsUnsearched r asked.tier) _ _ c.put_text-in-Random.result at_once told
