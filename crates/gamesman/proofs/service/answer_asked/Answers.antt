use Rattle.gamesman.proofs.Lower.{Position, IsUnbuilt, game_spec, subst}
use Rattle.gm_json.specs.inner.Feeds.{ahead}
use Rattle.gamesman.specs.Asks.{front_text}
use Rattle.gamesman.proofs.Cut.{kept}
use Rattle.gamesman.proofs.Parts.{unbuilt_asked}
use Rattle.gamesman.proofs.service.answer_asked.Goals as goal

pub returns-in-Err : goal.returns-in-Err
returns-in-Err g c =
    let spec = game_spec g.G.Game.rules g.G.Shown.shown g.G.Shown.move_shown g.G.Pictured.picture in
    let s = c.args.service.now in
    let before = g.O.Write.contents c.args.output.now in
    unbuilt_asked c.args.asked spec s.feed.lines (front_text c.args.asked.ready s.front) (ahead s.feed (g.I.Read.remaining c.args.input.now)) before before
    c.in-Err.fault (subst (λ (p : Position). IsUnbuilt g.G.Game.rules p.tier c.in-Err.fault) c.initial.ensures c.in-Err.ensures.unbuilt) (kept before)
