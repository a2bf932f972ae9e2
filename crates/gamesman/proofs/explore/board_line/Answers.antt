use Rattle.gamesman.proofs.Lower.{ℕ, List, refl, subst, ◌∙◌}
use Rattle.std.proofs.lemmas.Result.{IfOk-weaker}
use Rattle.gm_draw.specs.Pictures.{drawn}
use Rattle.gm_json.specs.Boards.{IsBoardJson}
use Rattle.gamesman.proofs.explore.board_line.Goals as goal

pub returns : goal.returns
returns g c =
    let r = g.G.Game.rules in
    let shown = g.G.Shown.shown in
    let move_shown = g.G.Shown.move_shown in
    let p = c.args.known.now.position in
    let line = c.in_ok-board_json.field-0.items in
    let board = drawn g.G.Pictured.picture shown p in
    let is_drawn : IsBoardJson r shown move_shown p board c.mover.result.now line
    = subst (λ (b : List ℕ). IsBoardJson r shown move_shown p b c.mover.result.now line) (c.as_slice.ensures.value ∙ c.draw.ensures) c.in_ok-board_json.ensures in
    let is = subst (λ (m : List ℕ). IsBoardJson r shown move_shown p board m line) c.mover.ensures is_drawn in
    IfOk-weaker c.ended.result _ _ (λ v e. (p, (c.args.known.now.legal, refl), (line, is, e))) c.ended.ensures
