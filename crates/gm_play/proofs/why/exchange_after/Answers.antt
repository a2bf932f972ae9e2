use Rattle.gm_play.proofs.Lower.{Some, refl, sym, subst, ◌∙◌, Position, IsBestMove, ◌≡◌, ℕ, true, ap, IsGame, Rules, IsTrueValue}
use Rattle.gm_play.specs.PlayTexts.{after_best}
use Rattle.gm_play.specs.declared.why.Exchange.{Exchange}
use Rattle.gm_play.specs.Why.{left_after, value_left, IsExchange}
use Rattle.gm_play.proofs.Rows.{after_true}
use Rattle.gm_play.proofs.why.exchange_after.Goals as goal

-- after the best answer
with_answer : (r : Rules) → IsGame r → (x : Exchange) (m : ℕ) → r.is_legal x.made.position ≡ true → IsTrueValue r x.made.position x.made.result →
    IsBestMove r x.made.position (Some m) → x.answer ≡ Some m
    → x.left ≡ r.play x.made.position m → x.value ≡ after_best x.made.result → IsExchange r x
with_answer r g x m legal value best a l v =
    let q = x.made.position in
    let next : IsTrueValue r (r.play q m) (after_best x.made.result) = after_true r q m x.made.result best value in
    record {
      legal = legal;
      answer = subst (IsBestMove r q) (sym a) best;
      left = l ∙ ap (left_after r q) (sym a);
      left_legal = subst (λ (z : Position). r.is_legal z ≡ true) (sym l) (g.play_legal q m legal best.1.best.there);
      value = subst (λ (z : Position). IsTrueValue r z x.value) (sym l) (subst (IsTrueValue r (r.play q m)) (sym v) next);
      nearer = v ∙ ap (value_left x.made.result) (sym a);
    }

pub returns-in-Some-clause-exchange : goal.returns-in-Some-clause-exchange
returns-in-Some-clause-exchange g c =
    let r = g.G.Game.rules in
    let best = subst (λ (q : Position). IsBestMove r q (Some c.in-Some.m)) (c.play.ensures ∙ sym c.requires.value.position)
    (subst (IsBestMove r c.play.result.position) c.in-Some.is c.best_move.ensures) in
    with_answer r g.met.G.Game.lawful _ c.in-Some.m c.requires.each.1 c.requires.value.is_true best refl c.play-in-Some.ensures c.value_after.ensures
