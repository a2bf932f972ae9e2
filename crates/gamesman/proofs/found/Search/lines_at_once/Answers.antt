use Rattle.gamesman.proofs.Lower.{Bool, List, sym, subst, IfOk-weaker, Found, IsFound, AreChosen, game_spec, AreLinesOf}
use Rattle.std.specs.List.{All}
use Rattle.gamesman.proofs.found.Search.lines_at_once.Goals as goal

pub lines_of-requires : goal.lines_of-requires
lines_of-requires g c = subst (All (IsFound g.G.Game.rules)) (sym c.as_slice.ensures.value) c.in_ok-found.ensures.each

pub returns : goal.returns
returns g c =
    let asked = c.args.self.now.asked in
    let spec = game_spec g.G.Game.rules g.G.Shown.shown g.G.Shown.move_shown g.G.Pictured.picture in
    let xs = c.in_ok-found.found.items in
    IfOk-weaker c.lines_of.result _ _
    (λ v is. (
      xs,
      subst (λ (b : Bool). AreChosen g.G.Game.rules asked.sought b asked.choice c.args.self.now.known.tiers.now xs) c.args.self.now.is_limited c.in_ok-found.ensures.chosen,
      subst (λ (ys : List Found). AreLinesOf spec c.args.form ys v.items) c.as_slice.ensures.value is,
    )) c.lines_of.ensures
