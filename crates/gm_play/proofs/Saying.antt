-- Turns, by the state of the game.
use Rattle.gm_play.proofs.Lower.{◌≡◌, ◌≤◌, ℕ, true, List, ◌++◌, length, codes, Option, None, Some, ap, ◌∙◌, arith, append_assoc, refl, Position, Solved, Rules, IsTrueValue, Side, You, IsGame, Advice, IsRightAdvice, IsBestMove, Question}
use Rattle.gm_play.specs.Sessions.{Speaks}
use Rattle.gm_play.specs.Dialogue.{before, position_line, persons_turn, computers_turn}
use Rattle.gm_play.specs.Endings.{over_line}
use Rattle.gm_game.proofs.Checker.{IsTrueValue_once}
use Rattle.gm_play.proofs.Keeping.{best_once}
use Rattle.gm_play.proofs.Reaching.{known_from, own_reached, reached_by}

-- the true value is the known one
pub value_known : (r : Rules) (k : Advice) (p : Position) (s : Solved) → r.is_legal p ≡ true → IsRightAdvice r p.tier k → IsTrueValue r p s → s ≡ k.value p
value_known r k p s l known h = IsTrueValue_once r p s (k.value p) h (known p (own_reached r p l)).0

-- four texts, from the last
pub nested : (a b c d : List ℕ) → a ++ b ++ c ++ d ≡ a ++ (b ++ (c ++ d))
nested a b c d = append_assoc (a ++ b) c d ∙ append_assoc a b (c ++ d)

pub over_short : (w : Option Side) → length (over_line w) ≤ 32
over_short (Some You) = omega arith
over_short w = omega arith

module _ (r : Rules) (shown : Position → List ℕ) (move_shown : Position → ℕ → List ℕ) (k : Advice) (seen : Question → Position → List ℕ) (p : Position)
    (text : List ℕ) (asked : Option Position) where
  -- the best move is the known one
  best_is_known : (m : ℕ) (o : Option ℕ) → IsBestMove r p (Some m) → IsBestMove r p o → k.best p ≡ o → k.best p ≡ Some m
  best_is_known m None a b e = absurd (b a.0)
  best_is_known m (Some n) a b e = e ∙ ap Some (best_once r p n m b a)

  -- the best move is made: its line, and then the person's turn
  pub computer_plays : (m : ℕ) → r.is_legal p ≡ true → IsRightAdvice r p.tier k → IsBestMove r p (Some m) → IsGame r → (front : List ℕ)
      → front ≡ position_line r shown move_shown k seen p ++ (codes "computer: " ++ (move_shown p m ++ codes "\n")) → (q : Position) → q ≡ r.play p m
      → (IsRightAdvice r q.tier k → Speaks r k (before front (persons_turn r shown move_shown k seen q)) text asked)
      → Speaks r k (computers_turn r shown move_shown k seen p) text asked
  computer_plays m legal known best game front f q e h =
      let here = position_line r shown move_shown k seen p in
      let line = codes "computer: " ++ (move_shown p m ++ codes "\n") in
      let next = λ (x : Position). persons_turn r shown move_shown k seen x in
      let t = h (known_from r p.tier k q known (reached_by r game p m legal best.1.best.there q e)) in
      let is : k.best p ≡ Some m = best_is_known m (k.best p) best (known p (own_reached r p legal)).1 refl in
      rw (best.0, is) (
        t.0 ∙ ap (λ (x : List ℕ). x ++ (next q).text) f ∙ append_assoc here line (next q).text ∙ ap (λ (x : Position). here ++ (line ++ (next x).text)) e,
        t.1 ∙ ap (λ (x : Position). (next x).asked) e,
        t.2,
      )
