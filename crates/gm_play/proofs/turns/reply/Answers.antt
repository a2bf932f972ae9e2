use Rattle.gm_play.proofs.Lower.{List, ℕ, ◌++◌, ◌∙◌, [], codes, refl, ap, sym}
use Rattle.gm_play.proofs.Reaching.{known_from, reached_by}
use Rattle.gm_play.proofs.Reading.{compared, read_is}
use Rattle.gm_play.proofs.Saying.{nested}
use Rattle.gm_play.proofs.turns.reply.Goals as goal

pub play-requires : goal.play-requires
play-requires g c = ((c.read_move.ensures c.in-Some.m).0 c.in-Some.is).0

pub returns-in-Some : goal.returns-in-Some
returns-in-Some g c k known =
    rw (compared c.args.line.now _ _ c.eq.result c.without_return-text.ensures c.as_slice.ensures c.eq.ensures ∙ c.if-eq.false)
    (rw (read_is g.G.Game.rules g.G.Shown.shown g.G.Shown.move_shown c.args.known.now.position c.args.line.now _ c.read_move.result
    c.without_return-text.ensures c.read_move.ensures ∙ c.in-Some.is) (rw (sym c.play.ensures) (c.computers_part.ensures k
    (known_from g.G.Game.rules c.args.known.now.position.tier k c.play.result.position known
    (reached_by g.G.Game.rules g.met.G.Game.lawful c.args.known.now.position c.in-Some.m c.args.known.now.legal
    ((c.read_move.ensures c.in-Some.m).0 c.in-Some.is).0 c.play.result.position c.play.ensures)))))

pub returns-in-None : goal.returns-in-None
returns-in-None g c k known =
    rw (compared c.args.line.now _ _ c.eq.result c.without_return-text.ensures c.as_slice.ensures c.eq.ensures ∙ c.if-eq.false)
    (rw (read_is g.G.Game.rules g.G.Shown.shown g.G.Shown.move_shown c.args.known.now.position c.args.line.now _ c.read_move.result
    c.without_return-text.ensures c.read_move.ensures ∙ c.in-None.is) (
      c.joined-in-None.ensures ∙ nested (codes "not a move\n") c.as_slice-in-None.result.now (codes "your move?\n") [] ∙ ap
          (λ (x : List ℕ). codes "not a move\n" ++ (x ++ codes "your move?\n")) (c.as_slice-in-None.ensures.value ∙ c.see.ensures),
      refl,
      known,
    ))
