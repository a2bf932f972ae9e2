use Rattle.gm_play.proofs.Lower.{List, ℕ, ◌++◌, ◌∙◌, [], codes, None, Some, sym, ap, ap₂, refl, subst, length, arith, append-nil, Computer, IsBestMove, winner, ◌≡◌, Option, IsSome, Position, Rules}
use Rattle.gm_play.proofs.Saying.{nested, over_short, computer_plays}
use Rattle.gm_play.proofs.turns.computers_part.Goals as goal

pub joined-requires : goal.joined-requires
joined-requires g c = omega (arith, ap length c.over.ensures, over_short (winner Computer c.in-Some.end))

pub returns-in-Some : goal.returns-in-Some
returns-in-Some g c k known =
    let place = c.as_slice.ensures.value ∙ c.place_line-place.ensures k known in
    let over = append-nil c.over.result.now ∙ c.over.ensures in
    rw (sym c.primitive.ensures ∙ c.in-Some.is)
    (c.joined.ensures ∙ nested c.as_slice.result.now c.over.result.now [] [] ∙ ap₂ (λ (x y : List ℕ). x ++ y) place over, refl, tt)

-- if the game goes on, there is a best move
best_there : (r : Rules) (p : Position) (o : Option ℕ) → r.primitive p ≡ None → IsBestMove r p o → IsSome o
best_there r p None e h = absurd (h e)
best_there r p (Some m) e h = refl

pub unwrap-m-requires : goal.unwrap-m-requires
unwrap-m-requires g c = best_there g.G.Game.rules c.args.known.now.position c.best_move.result (sym c.primitive.ensures ∙ c.in-None.is) c.best_move.ensures

pub move_text-text-requires-clause-listed : goal.move_text-text-requires-clause-listed
move_text-text-requires-clause-listed g c =
    (subst (IsBestMove g.G.Game.rules c.args.known.now.position) c.unwrap-m.ensures c.best_move.ensures).1.best.there

pub play-requires : goal.play-requires
play-requires g c = (subst (IsBestMove g.G.Game.rules c.args.known.now.position) c.unwrap-m.ensures c.best_move.ensures).1.best.there

pub returns-in-None : goal.returns-in-None
returns-in-None g c k known =
    let place = c.as_slice-in-None.ensures.value ∙ c.place_line-place.ensures k known in
    let text = c.as_slice-in-None-2.ensures.value ∙ c.move_text-text.ensures in
    let front = c.as_slice-in-None-3.ensures.value ∙ c.joined-front.ensures ∙ nested c.as_slice-in-None.result.now (codes "computer: ")
    c.as_slice-in-None-2.result.now (codes "\n") in
    computer_plays g.G.Game.rules g.G.Shown.shown g.G.Shown.move_shown k g.V.View.seen c.args.known.now.position _ _ c.unwrap-m.result
    c.args.known.now.legal known (subst (IsBestMove g.G.Game.rules c.args.known.now.position) c.unwrap-m.ensures c.best_move.ensures)
    g.met.G.Game.lawful c.as_slice-in-None-3.result.now
    (front ∙ ap₂ (λ (x y : List ℕ). x ++ (codes "computer: " ++ (y ++ codes "\n"))) place text)
    c.play.result.position c.play.ensures (c.persons_part.ensures k)
