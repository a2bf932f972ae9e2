use Rattle.gm_json.proofs.Lower.{◌≡◌, ◌+◌, List, ℕ, true, subst, IsAnswer}
use Rattle.gm_json.specs.Turns.{IsNoTurn}
use Rattle.gm_json.proofs.Stopping.{said}
use Rattle.gm_json.proofs.hand.take_answer.Goals as goal

pub returns-in-Ok-clause-ok : goal.returns-in-Ok-clause-ok
returns-in-Ok-clause-ok g c =
    let Says : List ℕ → ℕ → List ℕ → Type 0 = IsAnswer g.G.Game.rules g.G.Shown.shown g.G.Shown.move_shown c.args.asked c.args.tiers.now in
    let n = c.args.course.before + c.args.hand.now.number in
    let (out, is, ends) = c.in-Ok.ensures.ok in
    let none : c.args.course.turns ≡ true → IsNoTurn c.args.hand.now.line.items = subst (λ (l : List ℕ). c.args.course.turns ≡ true → IsNoTurn l) c.deref.ensures.0 c.in_ok-check_turn.ensures.ok in (
      out,
      said c.args.course.turns c.args.course.before Says c.args.hand.now.line.items c.args.hand.now.number out none
          (subst (λ (l : List ℕ). Says l n out) c.deref-2.ensures.0 is),
      ends,
    )
