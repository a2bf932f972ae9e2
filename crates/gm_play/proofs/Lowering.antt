-- A best move lowers the remoteness of its position by one.
use Rattle.gm_play.proofs.Lower.{◌≡◌, ℕ, zero, suc, ◌+◌, ◌<◌, ◌≤◌, inl, inr, true, None, Some, sym, ap, subst, ◌∙◌, arith, Contains, cases_lt, Position, Value, Lose, Draw, Tie, Win, solved, Rules, IsChild, HasValue, map_from, map_in, loses_zero, wins_from, ties_at_end, wanted_from, IsBestOf, IsBestMove, worth_from, HasValue_once}
use Rattle.gm_game.specs.Values.{wins, loses, ties}
use Rattle.gm_game.proofs.Frontier.{win_within, loss_within}
use Rattle.gm_game.proofs.Steps.{wins_zero, loses_suc, wins_suc, ties_suc, ties_from, loses_from}
use Rattle.gm_game.proofs.Basic.{wins_later}

-- a best move of a position lowers its remoteness by one
module _ (r : Rules) (p : Position) (open_ : r.primitive p ≡ None) where
  child : (m : ℕ) → Contains (r.moves p) m → IsChild r p (r.play p m)
  child m has = map_from (r.play p) (r.moves p) m has

  reached : (v : Value) (d : Position) (k : ℕ) → IsChild r p d → HasValue r d v k → (m : ℕ) × Contains (r.moves p) m × HasValue r (r.play p m) v k
  reached v d k is h = let (m, has, e) = map_in (r.play p) (r.moves p) d is in (m, has, subst (λ (q : Position). HasValue r q v k) (sym e) h)

  near_win : (own m k : ℕ) → HasValue r p Win own → IsBestOf r p Win (r.moves p) m k → own ≡ k + 1
  near_win zero m k h b = (let e = wins_zero r p h.0 in absurd (cc))
  near_win (suc o) m k h b = elim (wins_suc r o p h.0) [
    | inl e ↦ absurd (cc)
    | inr t ↦ (
        let (d, is, l) = t.1 in
        let (j, few, w) = loss_within r o d l in
        let (n, has, x) = reached Lose d j is w in
        let low : k ≤ j = b.no_better n j has x in
        let high : wins r (suc k) p ≡ true = wins_from r k p (r.play p m) open_ (child m b.there) b.reaches.0 in
        elim (cases_lt k o) [ inl less ↦ (let f = h.1 (suc k) (omega arith) in absurd (cc)) | inr more ↦ omega arith ])
  ]

  none_before : (m k : ℕ) → IsBestOf r p Tie (r.moves p) m k → (d : Position) → IsChild r p d → (c j : ℕ) → j < c → j < k → ties r j d → ⊥
  none_before m k b d is zero j x y t = omega arith
  none_before m k b d is (suc c) j x y t =
      let (n, has, z) = reached Tie d j is (t, λ q u s. none_before m k b d is c q (omega arith) (omega arith) s) in
      let low : k ≤ j = b.no_better n j has z in
      omega arith

  near_tie : (own m k : ℕ) → HasValue r p Tie own → IsBestOf r p Tie (r.moves p) m k → own ≡ k + 1
  near_tie zero m k h b = (let e = h.0 in absurd (cc))
  near_tie (suc o) m k h b = elim (ties_suc r o p h.0) [
    | inl e ↦ absurd (h.1 0 (omega arith) (ties_at_end r 0 p e))
    | inr (o_, never, (d, is, t)) ↦ (
        let high : ties r (suc k) p = ties_from r k p (r.play p m) open_ never (child m b.there) b.reaches.0 in
        elim (cases_lt k o) [
          | inl less ↦ absurd (h.1 (suc k) (omega arith) high)
          | inr more ↦ elim (cases_lt o k) [ inl less ↦ absurd (none_before m k b d is (suc o) o (omega arith) less t) | inr same ↦ omega arith ]
        ])
  ]

  far_loss : (own m k : ℕ) → HasValue r p Lose own → IsBestOf r p Lose (r.moves p) m k → own ≡ k + 1
  far_loss zero m k h b = (let e = loses_zero r p h.0 in absurd (cc))
  far_loss (suc o) m k h b = elim (loses_suc r o p h.0) [
    | inl e ↦ absurd (cc)
    | inr t ↦ (
        let within : (d : Position) → IsChild r p d → wins r k d ≡ true = λ d is. (
        let (j, few, w) = win_within r o d (t.1 d is) in
        let (n, has, x) = reached Win d j is w in
        let low : j ≤ k = b.no_better n j has x in
        wins_later r j k d low w.0) in
        let high : loses r (suc k) p ≡ true = loses_from r k p open_ within in
        let w : wins r o (r.play p m) ≡ true = t.1 (r.play p m) (child m b.there) in
        let low : k ≤ o = elim (cases_lt o k) [ inl less ↦ (let f = b.reaches.1 o less in absurd (cc)) | inr more ↦ more ] in
        elim (cases_lt k o) [ inl less ↦ (let f = h.1 (suc k) (omega arith) in absurd (cc)) | inr more ↦ omega arith ])
  ]

  -- so the worth of the best move is the value of the position
  pub best_worth : (v : Value) (own m k : ℕ) → HasValue r p v own → IsBestOf r p v (r.moves p) m k → worth_from (wanted_from v) k ≡ solved v own
  best_worth Win own m k h b = ap (solved Win) (sym (near_win own m k h b))
  best_worth Tie own m k h b = ap (solved Tie) (sym (near_tie own m k h b))
  best_worth Lose own m k h b = ap (solved Lose) (sym (far_loss own m k h b))
  best_worth Draw own m k h b = ap (solved Draw) (b.reaches.0 ∙ sym h.0)

pub step_value : (r : Rules) (p : Position) (m : ℕ) (v : Value) (n : ℕ) → IsBestMove r p (Some m) → HasValue r p v n → (k : ℕ) × HasValue r (r.play p m)
    (wanted_from v) k × (worth_from (wanted_from v) k ≡ solved v n)
step_value r p m v n (open_, b) h =
    let (e, d) = HasValue_once r p b.value v b.own n b.is_value h in
    let w : worth_from (wanted_from b.value) b.remoteness ≡ solved b.value b.own = best_worth r p open_ b.value b.own m b.remoteness b.is_value b.best in (
      b.remoteness,
      subst (λ (x : Value). HasValue r (r.play p m) (wanted_from x) b.remoteness) e b.best.reaches,
      ap (λ (x : Value). worth_from (wanted_from x) b.remoteness) (sym e) ∙ w ∙ ap (λ (x : Value). solved x b.own) e ∙ ap (solved v) d,
    )
