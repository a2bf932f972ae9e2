use Rattle.std.proofs.lemmas.Result.{IfErr-weaker}
use Rattle.gamesman.proofs.Lower.{Err, ap, inl, game_spec, IsTextFor, text_asked, max}
use Rattle.gamesman.specs.Searches.{IsAtText}
use Rattle.gamesman.specs.Answers.{IsAnsweredFromTables}
use Rattle.gamesman.proofs.Answering.{explore_refused, page_refused, page_engineless, place_refused, asked_read}
use Rattle.gamesman.proofs.Telling.{find_unsearched}
use Rattle.gamesman.proofs.Cut.{kept, passed}
use Rattle.gamesman.proofs.needs.needs_of.Goals as goal

pub returns-in_err-needs-in-Page-clause-refused : goal.returns-in_err-needs-in-Page-clause-refused
unfolding IsAnsweredFromTables
returns-in_err-needs-in-Page-clause-refused g c input output =
    let spec = game_spec g.G.Game.rules g.G.Shown.shown g.G.Shown.move_shown g.G.Pictured.picture in
    let request = c.in-Page.request in
    let fault = c.in_err-needs-in-Page.field-0.0 in
    rw c.in-Page.is (passed c.from_residual.result _ fault c.from_residual.ensures.1
    (page_refused request.engine spec request.position (max request.limit 1) fault output c.in_err-needs-in-Page.ensures.refused))

pub returns-in_err-needs-in-Page-2-clause-refused : goal.returns-in_err-needs-in-Page-2-clause-refused
unfolding IsAnsweredFromTables
returns-in_err-needs-in-Page-2-clause-refused g c input output =
    let spec = game_spec g.G.Game.rules g.G.Shown.shown g.G.Shown.move_shown g.G.Pictured.picture in
    let request = c.in-Page.request in
    let fault = c.in_err-needs-in-Page-2.field-0.0 in
    let needs = c.in_ok-needs-in-Page.needs in
    rw c.in-Page.is (passed c.from_residual-in_err-needs-in-Page-2.result _ fault c.from_residual-in_err-needs-in-Page-2.ensures.1
    (page_engineless request.engine spec (text_asked spec request.position) (max request.limit 1) needs.position fault output
    (asked_read spec request.position needs c.in_ok-needs-in-Page.ensures.about) c.in_err-needs-in-Page-2.ensures.fault))

pub returns-in-Explore-clause-refused : goal.returns-in-Explore-clause-refused
unfolding IsAnsweredFromTables
returns-in-Explore-clause-refused g c input output =
    let spec = game_spec g.G.Game.rules g.G.Shown.shown g.G.Shown.move_shown g.G.Pictured.picture in
    rw c.in-Explore.is (IfErr-weaker c.needs_at.result _ _ (λ fault none. explore_refused spec c.in-Explore.position
    (IsTextFor spec c.in-Explore.question (text_asked spec c.in-Explore.position)) fault output none)
    c.needs_at.ensures.refused)

pub returns-in-Play-clause-refused : goal.returns-in-Play-clause-refused
unfolding IsAnsweredFromTables
returns-in-Play-clause-refused g c input output =
    rw c.in-Play.is (IfErr-weaker c.needs_at-in-Play.result _ _ (λ fault none. inl (none.0, ap (λ e. Err e) none.1, kept output))
    c.needs_at-in-Play.ensures.refused)

pub returns-in-At-clause-refused : goal.returns-in-At-clause-refused
unfolding IsAnsweredFromTables
returns-in-At-clause-refused g c input output =
    rw c.in-At.is (IfErr-weaker c.needs_in.result _ _
    (λ fault why. place_refused (IsAtText g.G.Game.rules g.G.Shown.shown g.G.Shown.move_shown c.in-At.tier c.in-At.index _) g.G.Game.rules c.in-At.tier
    c.in-At.index fault output why) c.needs_in.ensures.refused)

pub returns-in-Find-clause-refused : goal.returns-in-Find-clause-refused
unfolding IsAnsweredFromTables
returns-in-Find-clause-refused g c input output =
    let spec = game_spec g.G.Game.rules g.G.Shown.shown g.G.Shown.move_shown g.G.Pictured.picture in
    rw c.in-Find.is (IfErr-weaker c.needs_of_tier.result _ _ (λ fault why. find_unsearched _ spec c.in-Find.search output fault (inl why)) c.needs_of_tier.ensures.refused)
