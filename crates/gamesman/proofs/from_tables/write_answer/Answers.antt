use Rattle.gamesman.proofs.Lower.{None, ℕ, List, inr, subst, ap, ◌∙◌, IfOk-weaker, OutOfMemory, Position, IsOrderFrom, IsUnbuilt, IsUnsearched, game_spec, IsTextFor, text_asked, max}
use Rattle.gamesman.specs.Searches.{IsUnplaced, IsAtText, IsCountsOf, IsLongestOf}
use Rattle.gm_page.specs.Pages.{IsPage}
use Rattle.gamesman.specs.Solving.{IsReport}
use Rattle.gamesman.specs.Texts.{IsPlacedText}
use Rattle.gamesman.specs.Analysing.{IsAnalysisText}
use Rattle.gamesman.specs.Answers.{IsAnsweredFromTables}
use Rattle.gamesman.specs.Plays.{IsSitting}
use Rattle.gamesman.proofs.Answering.{text_told, answered_told, asked_read, paged_told, page_of, IsPageOf}
use Rattle.gamesman.proofs.from_tables.write_answer.Goals as goal

pub returns-in-Solve : goal.returns-in-Solve
unfolding IsAnsweredFromTables
returns-in-Solve g c =
    let r = g.G.Game.rules in
    let built = c.args.built.now in
    let same = rw c.in-Solve.is at c.requires.needed in
    let order = subst (λ (t : ℕ). IsOrderFrom r t built.order) same c.requires.order in
    rw c.in-Solve.is (text_told c.report_for.result (λ v. v.items) (λ e. OutOfMemory e) (IsReport r c.in-Solve.json) (IsUnsearched r None) _ _ c.put_text.result (λ e. tt) (λ e. inr tt)
    (IfOk-weaker c.report_for.result _ _ (λ v is. record { tiers = built.order; order = order; work = built.work; some_work = c.requires.work; text = is }) c.report_for.ensures) c.put_text.ensures.put c.put_text.ensures.refused)

pub returns-in-Explore : goal.returns-in-Explore
unfolding IsAnsweredFromTables
returns-in-Explore g c =
    let r = g.G.Game.rules in
    let shown = g.G.Shown.shown in
    let move_shown = g.G.Shown.move_shown in
    let spec = game_spec r shown move_shown g.G.Pictured.picture in
    let needs = c.args.needs.now in
    let question = c.in-Explore.question in
    let about = rw c.in-Explore.is at c.requires.needed in
    let read = asked_read spec c.in-Explore.position needs about in
    let IsText : List ℕ → Type 0 = IsTextFor spec question (text_asked spec c.in-Explore.position) in
    let shows = ap shown c.known_at-known.ensures ∙ read.1 in
    rw c.in-Explore.is (answered_told r shown move_shown (text_asked spec c.in-Explore.position) IsText needs.position read _ _ c.put_text-in-Explore.result
    (text_told c.text_for.result (λ v. v.items) (λ e. OutOfMemory e) IsText (IsUnbuilt r needs.position.tier) _ _ c.put_text-in-Explore.result (λ e. tt) (λ e. tt)
    (IfOk-weaker c.text_for.result _ _ (λ v is. subst (λ (text : List ℕ). IsTextFor spec question text v.items) shows is) c.text_for.ensures)
    c.put_text-in-Explore.ensures.put c.put_text-in-Explore.ensures.refused))

pub returns-in-Counts : goal.returns-in-Counts
unfolding IsAnsweredFromTables
returns-in-Counts g c =
    let r = g.G.Game.rules in
    let built = c.args.built.now in
    let same = rw c.in-Counts.is at c.requires.needed in
    let order = subst (λ (t : ℕ). IsOrderFrom r t built.order) same c.requires.order in
    rw c.in-Counts.is (text_told c.counts_of.result (λ v. v.items) (λ e. OutOfMemory e) (IsCountsOf r c.in-Counts.asked) (IsUnsearched r None) _ _ c.put_text-in-Counts.result (λ e. tt) (λ e. inr tt)
    (IfOk-weaker c.counts_of.result _ _ (λ v is. (built.order, order, is)) c.counts_of.ensures) c.put_text-in-Counts.ensures.put c.put_text-in-Counts.ensures.refused)

pub returns-in-Longest : goal.returns-in-Longest
unfolding IsAnsweredFromTables
returns-in-Longest g c =
    let r = g.G.Game.rules in
    let built = c.args.built.now in
    let same = rw c.in-Longest.is at c.requires.needed in
    let order = subst (λ (t : ℕ). IsOrderFrom r t built.order) same c.requires.order in
    rw c.in-Longest.is (text_told c.longest_of.result (λ v. v.items) (λ e. OutOfMemory e) (IsLongestOf r g.G.Shown.shown g.G.Shown.move_shown c.in-Longest.reached c.in-Longest.limit c.in-Longest.json) (IsUnsearched r None) _ _ c.put_text-in-Longest.result (λ e. tt) (λ e. inr tt)
    (IfOk-weaker c.longest_of.result _ _ (λ v is. (built.order, order, is)) c.longest_of.ensures) c.put_text-in-Longest.ensures.put c.put_text-in-Longest.ensures.refused)

pub returns-in-Analyse : goal.returns-in-Analyse
unfolding IsAnsweredFromTables
returns-in-Analyse g c =
    let r = g.G.Game.rules in
    let built = c.args.built.now in
    let same = rw c.in-Analyse.is at c.requires.needed in
    let order = subst (λ (t : ℕ). IsOrderFrom r t built.order) same c.requires.order in
    rw c.in-Analyse.is (text_told c.analysis_lines.result (λ v. v.items) (λ e. OutOfMemory e) (IsAnalysisText r) (IsUnsearched r None) _ _ c.put_text-in-Analyse.result (λ e. tt) (λ e. inr tt)
    (IfOk-weaker c.analysis_lines.result _ _ (λ v is. (built.order, order, is)) c.analysis_lines.ensures) c.put_text-in-Analyse.ensures.put c.put_text-in-Analyse.ensures.refused)

pub returns-in-Page : goal.returns-in-Page
unfolding IsAnsweredFromTables
returns-in-Page g c =
    let r = g.G.Game.rules in
    let shown = g.G.Shown.shown in
    let move_shown = g.G.Shown.move_shown in
    let picture = g.G.Pictured.picture in
    let spec = game_spec r shown move_shown picture in
    let needs = c.args.needs.now in
    let asked = c.in-Page.asked in
    let (about, digits) = rw c.in-Page.is at c.requires.needed in
    let read = asked_read spec asked.position needs about in
    let text = text_asked spec asked.position in
    let limit = max asked.limit 1 in
    let shows = ap shown c.known_at-known-in-Page.ensures ∙ read.1 in
    let IsText : List ℕ → Type 0 = IsPageOf asked.engine spec text limit in
    rw c.in-Page.is (paged_told asked.engine spec text limit needs.position read _ _ c.put_text-in-Page.result
    (text_told c.page_text.result (λ v. v.items) (λ e. OutOfMemory e) IsText (IsUnbuilt r needs.position.tier) _ _ c.put_text-in-Page.result (λ e. tt) (λ e. tt)
    (IfOk-weaker c.page_text.result _ _
    (λ v is. page_of asked.engine spec text limit needs.engine.items v.items digits
    (subst (λ (most : ℕ). IsPage r shown move_shown picture text most needs.engine.items v.items) c.max-limit.ensures
    (subst (λ (es : List ℕ). IsPage r shown move_shown picture text c.max-limit.result es v.items) c.as_slice.ensures.value
    (subst (λ (t : List ℕ). IsPage r shown move_shown picture t c.max-limit.result c.as_slice.result.now v.items) shows is)))) c.page_text.ensures)
    c.put_text-in-Page.ensures.put c.put_text-in-Page.ensures.refused))

pub returns-in-At : goal.returns-in-At
unfolding IsAnsweredFromTables
returns-in-At g c =
    let r = g.G.Game.rules in
    let shown = g.G.Shown.shown in
    let move_shown = g.G.Shown.move_shown in
    let needs = c.args.needs.now in
    let tier = c.in-At.tier in
    let index = c.in-At.index in
    let json = c.in-At.json in
    let (at, reached, same) = rw c.in-At.is at c.requires.needed in
    rw c.in-At.is (text_told c.placed_text.result (λ v. v.items) (λ e. OutOfMemory e) (IsAtText r shown move_shown tier index json) (IsUnplaced r tier index) _ _
    c.put_text-in-At.result (λ e. tt) (λ e. inr tt)
    (IfOk-weaker c.placed_text.result _ _
    (λ v is. (needs.position, at, reached, subst (λ (p : Position). IsPlacedText r shown move_shown p json v.items) c.known_at-known-in-At.ensures is)) c.placed_text.ensures)
    c.put_text-in-At.ensures.put c.put_text-in-At.ensures.refused)

pub returns-in-Filter : goal.returns-in-Filter
unfolding IsAnsweredFromTables
returns-in-Filter g c = rw c.in-Filter.is (inr c.answer_input.ensures)

pub returns-in-Find : goal.returns-in-Find
unfolding IsAnsweredFromTables
returns-in-Find g c = rw c.in-Find.is c.find.ensures

pub returns-in-Play : goal.returns-in-Play
unfolding IsAnsweredFromTables
returns-in-Play g c =
    let r = g.G.Game.rules in
    let needs = c.args.needs.now in
    let asked = c.in-Play.asked in
    let (from, legal, same) = rw c.in-Play.is at c.requires.needed in
    let sitting = subst (λ (p : Position). IsSitting r g.G.Shown.shown g.G.Shown.move_shown g.G.Pictured.picture asked p (g.I.Read.remaining c.args.input.now)
    (g.O.Write.contents c.args.output.now) (g.O.Write.contents c.play.new.output) c.play.result) c.known_at-known-in-Play.ensures c.play.ensures in
    rw c.in-Play.is (inr (needs.position, from, inr sitting))
