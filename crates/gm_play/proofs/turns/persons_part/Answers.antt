use Rattle.gm_play.proofs.Lower.{List, ℕ, ◌++◌, ◌∙◌, [], codes, sym, ap, ap₂, refl, length, arith, append-nil, You, winner}
use Rattle.gm_play.proofs.Saying.{nested, over_short}
use Rattle.gm_play.proofs.turns.persons_part.Goals as goal

pub joined-requires : goal.joined-requires
joined-requires g c = omega (arith, ap length c.over.ensures, over_short (winner You c.in-Some.end))

pub returns-in-Some : goal.returns-in-Some
returns-in-Some g c k known =
    let front = c.args.front.now in
    let place = c.as_slice.ensures.value ∙ c.place_line-place.ensures k known in
    let over = append-nil c.over.result.now ∙ c.over.ensures in
    rw (sym c.primitive.ensures ∙ c.in-Some.is)
    (c.joined.ensures ∙ nested front c.as_slice.result.now c.over.result.now [] ∙ ap₂ (λ (x y : List ℕ). front ++ (x ++ y)) place over, refl, tt)

pub returns-in-None : goal.returns-in-None
returns-in-None g c k known =
    let front = c.args.front.now in
    let place = c.as_slice-in-None.ensures.value ∙ c.place_line-place.ensures k known in
    let seen = c.as_slice-in-None-2.ensures.value ∙ c.see.ensures in
    let question = codes "your move?\n" in
    rw (sym c.primitive.ensures ∙ c.in-None.is) (
      c.joined-in-None.ensures ∙ nested front c.as_slice-in-None.result.now c.as_slice-in-None-2.result.now question ∙ ap₂
          (λ (x y : List ℕ). front ++ (x ++ (y ++ question))) place seen,
      refl,
      known,
    )
