-- Tries, and their numbers along the solution of a position.
use Rattle.gm_find.proofs.Lower.{◌≡◌, ℕ, ◌+◌, ◌<◌, ◌-◌, ◌↔◌, List, [], ◌∷◌, length, refl, sym, ap, ◌∙◌, subst, arith, Position, Rules, HasValue, IsTrueValue}
use Rattle.std.proofs.Common.{◌≢◌, ◌≤◌, ◌*◌, Option, None, Some, min}
use Rattle.gm_game.specs.declared.position.End.{End}
use Rattle.gm_game.specs.declared.position.End.TheVariants.{Lose as EndLose, Tie as EndTie, Win as EndWin}
use Rattle.gm_game.specs.declared.position.Solved.{Solved}
use Rattle.gm_game.specs.declared.position.Value.{Value}
use Rattle.gm_game.specs.declared.position.Value.TheVariants.{Draw}
use Rattle.gm_game.specs.Records.{solved}
use Rattle.gm_game.proofs.Basic.{HasValue_once}
use Rattle.gm_game.proofs.Steps.{wins_at_end, loses_at_end}
use Rattle.gm_play.proofs.Lower.{ties_at_end}
use Rattle.gm_play.specs.BestMoves.{IsBestMove, wanted_from}
use Rattle.gm_play.specs.MoveValues.{worth_from}
use Rattle.gm_play.proofs.Keeping.{best_once}
use Rattle.gm_play.proofs.Lowering.{step_value}
use Rattle.gm_find.specs.declared.along.Tally.{Tally}
use Rattle.gm_find.specs.Tries.{IsTry, IsTryStep, HasTries, IsSolutionOf, AreTurns, AreTurnsAfter, AreOnSolution}
use Rattle.gm_find.specs.inner.Tallies.{AreTallied, AreAfter, IsSmall, HasEnd}
use Rattle.gm_find.proofs.ListLemmas.{those_once}

-- a move is a try by the values of its position and its result
pub try_is : (r : Rules) (p : Position) (m : ℕ) (own after : Solved) → IsTrueValue r p own → IsTrueValue r (r.play p m) after → IsTryStep own after ↔ IsTry r p m
try_is r p m own after h k = (
  λ t. (own, after, h, k, t),
  λ (o, a, ho, ka, t). (
      let e = HasValue_once r p own.value o.value own.remoteness o.remoteness h ho in
      let f = HasValue_once r (r.play p m) after.value a.value after.remoteness a.remoteness k ka in
      rw (e.0, e.1, f.0, f.1) t),
)

-- ---- one solution
module _ (r : Rules) where
  tries_once : (p : Position) (t u : ℕ) → HasTries r p t → HasTries r p u → t ≡ u
  tries_once p t u (a, x, e) (b, y, f) = sym e ∙ ap length (those_once (IsTry r p) (r.moves p) a b x y) ∙ f

  solution_once : (ms ns : List ℕ) (p : Position) → IsSolutionOf r p ms → IsSolutionOf r p ns → ms ≡ ns
  solution_once [] [] p a b = refl
  solution_once [] (n ∷ ns) p a b = absurd (a.1 b.0.0.0)
  solution_once (m ∷ ms) [] p a b = absurd (b.1 a.0.0.0)
  solution_once (m ∷ ms) (n ∷ ns) p a b =
      let e = best_once r p m n a.0.0 b.0.0 in
      let there : IsSolutionOf r (r.play p m) ns = subst (λ (x : ℕ). IsSolutionOf r (r.play p x) ns) (sym e) (b.0.1, b.1) in
      subst (λ (x : ℕ). m ∷ ms ≡ x ∷ ns) e (ap (λ (l : List ℕ). m ∷ l) (solution_once ms ns (r.play p m) (a.0.1, a.1) there))

  mutual
    turns_once : (ms : List ℕ) (p : Position) (ts us : List ℕ) → AreTurns r p ms ts → AreTurns r p ms us → ts ≡ us
    turns_once [] p ts us h k = h ∙ sym k
    turns_once (m ∷ ms) p ts us (t, rest, x, a, e) (u, more, y, b, f) =
        e ∙ ap (λ (n : ℕ). n ∷ rest) (tries_once p t u x y) ∙ ap (λ (l : List ℕ). u ∷ l) (after_once ms (r.play p m) rest more a b) ∙ sym f

    after_once : (ms : List ℕ) (q : Position) (ts us : List ℕ) → AreTurnsAfter r q ms ts → AreTurnsAfter r q ms us → ts ≡ us
    after_once [] q ts us h k = h ∙ sym k
    after_once (e ∷ ms) q ts us h k = turns_once ms (r.play q e) ts us h k

  pub on_solution_once : (p : Position) (ts us : List ℕ) → AreOnSolution r p ts → AreOnSolution r p us → ts ≡ us
  on_solution_once p ts us (ms, a, h) (ns, b, k) =
      turns_once ms p ts us h (subst (λ (l : List ℕ). AreTurns r p l us) (sym (solution_once ms ns p a b)) k)

  -- ---- no solution of a draw
  ended_no_draw : (p : Position) (o : Option End) → r.primitive p ≡ o → r.primitive p ≢ None → (n : ℕ) → HasValue r p Draw n → ⊥
  ended_no_draw p None e over n h = over e
  ended_no_draw p (Some EndLose) e over n h = (let a = loses_at_end r 0 p e in let b = h.1 0 in cc)
  ended_no_draw p (Some EndTie) e over n h = h.3 0 (ties_at_end r 0 p e)
  ended_no_draw p (Some EndWin) e over n h = (let a = wins_at_end r 0 p e in let b = h.2 0 in cc)

  pub drawn_unsolved : (ms : List ℕ) (p : Position) (n : ℕ) → HasValue r p Draw n → IsSolutionOf r p ms → ⊥
  drawn_unsolved [] p n h s = ended_no_draw p (r.primitive p) refl s.1 n h
  drawn_unsolved (m ∷ ms) p n h s = let (k, there, e) = step_value r p m Draw n s.0.0 h in drawn_unsolved ms (r.play p m) k there (s.0.1, s.1)

  -- ---- a best move, one move nearer the end
  goes_down : (v : Value) (k n : ℕ) → v ≢ Draw → worth_from (wanted_from v) k ≡ solved v n → (wanted_from v ≢ Draw) × (k + 1 ≡ n)
  goes_down Draw k n d e = absurd (d refl)
  goes_down v k n d e = (λ f. absurd (cc), ap (λ s. s.remoteness) e)

  pub end_step : (p : Position) (m n : ℕ) → IsBestMove r p (Some m) → HasEnd r p n → (0 < n) × HasEnd r (r.play p m) (n - 1)
  end_step p m n best (v, d, h) =
      let (k, there, e) = step_value r p m v n best h in
      let (other, far) = goes_down v k n d e in
      let same : k ≡ n - 1 = omega arith in
      (omega arith, (wanted_from v, other, subst (HasValue r (r.play p m) (wanted_from v)) same there))

  -- ---- one move more
  pub after_more : (p q : Position) (e : ℕ) (ts : List ℕ) → IsBestMove r p (Some e) → q ≡ r.play p e → AreOnSolution r q ts → AreAfter r p ts
  after_more p q e ts best is (ms, solution, turns) =
      let s : IsSolutionOf r (r.play p e) ms = subst (λ (x : Position). IsSolutionOf r x ms) is solution in
      (e ∷ ms, ((best, s.0), s.1), subst (λ (x : Position). AreTurns r x ms ts) is turns)

  pub turn_more : (p q : Position) (m t : ℕ) (ts : List ℕ) → IsBestMove r p (Some m) → q ≡ r.play p m → HasTries r p t → AreAfter r q ts → AreOnSolution r p (t ∷ ts)
  turn_more p q m t ts best is has (ms, solution, turns) =
      let s : IsSolutionOf r (r.play p m) ms = subst (λ (x : Position). IsSolutionOf r x ms) is solution in
      (m ∷ ms, ((best, s.0), s.1), (t, ts, has, subst (λ (x : Position). AreTurnsAfter r x ms ts) is turns, refl))

-- ---- tallies
pub small_step : (own left total : ℕ) → 0 < left → own ≤ 128 → total ≤ own + 128 * (left - 1) → total ≤ 128 * left
small_step own left total more few low = omega arith

pub small_more : (n m : ℕ) (o : Option Tally) → n ≤ m → IsSmall n o → IsSmall m o
small_more n m None l h = tt
small_more n m (Some x) l h = omega arith

pub tallied_first : (t : ℕ) (ts : List ℕ) (x : Tally) → AreTallied ts None → x.least ≡ t → x.total ≡ t → AreTallied (t ∷ ts) (Some x)
tallied_first t ts x h e f = rw h (omega arith, e, (let g = f in omega arith))

pub tallied_more : (t : ℕ) (ts : List ℕ) (rest x : Tally) → AreTallied ts (Some rest) → x.least ≡ min t rest.least → x.total ≡ t + rest.total → AreTallied (t ∷ ts)
    (Some x)
tallied_more t [] rest x h e f = (let l = h.0 in absurd (omega arith))
tallied_more t (u ∷ us) rest x h e f = (omega arith, e ∙ ap (min t) h.1, f ∙ ap (λ (n : ℕ). t + n) h.2)
