use Rattle.gamesman.proofs.Lower.{List, ℕ, Option, Result, Fault, game_spec, Appends}
use Rattle.gm_json.specs.inner.Feeds.{ahead}
use Rattle.gamesman.specs.Asks.{IsAskedFrom, IsAskedWith}
use Rattle.gamesman.proofs.service.serve.Given as goal

abbrev pub invariant-loop-line : goal.invariant-loop-line
invariant-loop-line g l =
    (front : List ℕ) × (start : Option (List ℕ)) × Appends start (g.O.Write.contents l.output) front × ((end : Option (List ℕ)) (result : Result ℕ Fault)
    → IsAskedFrom l.asked (game_spec g.G.Game.rules g.G.Shown.shown g.G.Shown.move_shown g.G.Pictured.picture) l.service.feed.lines front
    (ahead l.service.feed (g.I.Read.remaining l.input)) start end result
    → IsAskedWith l.asked (game_spec g.G.Game.rules g.G.Shown.shown g.G.Shown.move_shown g.G.Pictured.picture) l.fn.service (g.I.Read.remaining l.fn.input)
    (g.O.Write.contents l.fn.output) end result)
