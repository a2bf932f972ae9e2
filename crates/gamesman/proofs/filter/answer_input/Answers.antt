use Rattle.gamesman.proofs.Lower.{List, [], ℕ, Option, refl, subst, game_spec, IsTextFor, IsOfNone}
use Rattle.gamesman.specs.Filters.{AreLinesAnswered}
use Rattle.gamesman.proofs.Filtering.{begins, stopped, fresh_reader}
use Rattle.gamesman.proofs.filter.answer_input.Goals as goal

pub returns-in-Ok : goal.returns-in-Ok
returns-in-Ok g c =
    let r = g.G.Game.rules in
    let shown = g.G.Shown.shown in
    let move_shown = g.G.Shown.move_shown in
    let IsText = IsTextFor (game_spec r shown move_shown g.G.Pictured.picture) c.args.question in
    subst (λ (o : Option (List ℕ)). AreLinesAnswered IsText (IsOfNone r shown move_shown) o
    (g.O.Write.contents c.args.output.now) (g.O.Write.contents c.answer_lines.new.output) c.answer_lines.result)
    (fresh_reader (λ x. g.I.Read.remaining x.now) c.in-Ok.reader _ c.in-Ok.ensures.capacity c.in-Ok.ensures.empty c.in-Ok.ensures.inner) c.answer_lines.ensures

pub returns-in-Err : goal.returns-in-Err
returns-in-Err g c =
    let IsText = IsTextFor (game_spec g.G.Game.rules g.G.Shown.shown g.G.Shown.move_shown g.G.Pictured.picture) c.args.question in
    stopped IsText 1 [] _ _ _ _ (begins IsText _ _ 1 [] refl refl)
