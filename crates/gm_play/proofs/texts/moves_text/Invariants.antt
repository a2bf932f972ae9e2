use Rattle.gm_play.proofs.Lower.{◌≡◌, take, flat_map}
use Rattle.gm_play.specs.PlayTexts.{move_row}
use Rattle.gm_play.proofs.texts.moves_text.Given as goal

abbrev pub invariant-loop-x : goal.invariant-loop-x
invariant-loop-x g l = l.rows.items ≡ flat_map (move_row g.G.Game.rules g.G.Shown.shown g.G.Shown.move_shown l.known.position) (take l.x-index l.x-items)
