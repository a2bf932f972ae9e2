use Rattle.gamesman.proofs.Lower.{game_spec}
use Rattle.gamesman.proofs.Answering.{unbuilt_answered}
use Rattle.gamesman.proofs.from_tables.answer_from_tables.Goals as goal

pub returns-in-Err-build : goal.returns-in-Err-build
returns-in-Err-build g c =
    let spec = game_spec g.G.Game.rules g.G.Shown.shown g.G.Shown.move_shown g.G.Pictured.picture in
    unbuilt_answered spec c.in-Ok.needs c.in-Err-build.fault (g.O.Write.contents c.args.output.now) c.in-Err-build.ensures.unbuilt c.args.command
    (g.I.Read.remaining c.args.input.now) c.in-Ok.ensures.needed
