-- Properties that best moves preserve, move by move.
use Rattle.gm_play.proofs.Lower.{◌≡◌, ◌≢◌, ℕ, zero, suc, ◌+◌, ◌<◌, ◌≤◌, inl, inr, Bool, true, false, List, Option, None, Some, refl, sym, ap, ◌∙◌, subst, arith, Contains, Position, End, Value, Lose, Draw, Tie, Win, Rules, IsGame, HasValue, contains_none, map_from, Solved, loses_zero, ties_at_end, wins_from, HasValue_once, Side, You, Computer, wanted_from, IsNoFarther, IsBestOf, IsBestMove, IsWonIn, IsEven, HasLost}
use Rattle.gm_game.specs.Values.{loses, wins}
use Rattle.gm_game.proofs.Steps.{loses_suc, loses_at_end, wins_at_end}
use Rattle.gm_game.proofs.Basic.{never_both, no_win_of_tie, no_loss_of_tie}
use Rattle.gm_game.proofs.Frontier.{win_within}
use Rattle.gm_play.specs.Sides.{HasWon}
use Rattle.gm_game.specs.declared.position.End.TheVariants.{Lose as EndLose, Tie as EndTie, Win as EndWin}
use Rattle.gm_play.proofs.Lowering.{step_value}

false_unless : (b : Bool) → (b ≡ true → ⊥) → b ≡ false
false_unless true h = absurd (h refl)
false_unless false h = refl

-- the best move is unique
same_remoteness : (r : Rules) (v : Value) (p q : Position) (k l : ℕ) → HasValue r p (wanted_from v) k → HasValue r q (wanted_from v) l → IsNoFarther v k l →
    IsNoFarther v l k → k ≡ l
same_remoteness r Draw p q k l a b c d = a.0 ∙ sym b.0
same_remoteness r v p q k l a b c d = omega arith

best_of_once : (r : Rules) (p : Position) (v : Value) (ms : List ℕ) (m n k l : ℕ) → IsBestOf r p v ms m k → IsBestOf r p v ms n l → m ≡ n
best_of_once r p v ms m n k l a b =
    let e : k ≡ l = same_remoteness r v (r.play p m) (r.play p n) k l a.reaches b.reaches (a.no_better n l b.there b.reaches)
    (b.no_better m k a.there a.reaches) in
    let low : m ≤ n = a.first n b.there (subst (λ (x : ℕ). HasValue r (r.play p n) (wanted_from v) x) (sym e) b.reaches) in
    let high : n ≤ m = b.first m a.there (subst (λ (x : ℕ). HasValue r (r.play p m) (wanted_from v) x) e a.reaches) in
    omega arith

pub best_once : (r : Rules) (p : Position) (m n : ℕ) → IsBestMove r p (Some m) → IsBestMove r p (Some n) → m ≡ n
best_once r p m n (o, a) (q, b) =
    let e : a.value ≡ b.value = (HasValue_once r p a.value b.value a.own b.own a.is_value b.is_value).0 in
    best_of_once r p b.value (r.moves p) m n a.remoteness b.remoteness (subst (λ (v : Value). IsBestOf r p v (r.moves p) m a.remoteness) e a.best) b.best

module _ (r : Rules) (g : IsGame r) where
  open_case : (p : Position) (m : ℕ) (o : Option End) → r.is_legal p ≡ true → Contains (r.moves p) m → r.primitive p ≡ o → r.primitive p ≡ None
  open_case p m None l has e = e
  open_case p m (Some x) l has e =
      let some : r.primitive p ≢ None = λ n. absurd (cc) in
      absurd (contains_none m (subst (λ (ms : List ℕ). Contains ms m) (g.ended p l some) has))

  -- if there is a move, the game goes on
  pub goes_on : (p : Position) (m : ℕ) → r.is_legal p ≡ true → Contains (r.moves p) m → r.primitive p ≡ None
  goes_on p m l has = open_case p m (r.primitive p) l has refl

  -- from a lost position each move leads to a nearer win
  pub reply_won : (p : Position) (m n : ℕ) → r.is_legal p ≡ true → Contains (r.moves p) m → HasValue r p Lose n → (k : ℕ) × (k < n) × HasValue r
      (r.play p m) Win k
  reply_won p m zero l has h = (let e = loses_zero r p h.0 in let o = goes_on p m l has in absurd (cc))
  reply_won p m (suc n) l has h = elim (loses_suc r n p h.0) [
    | inl e ↦ (let o = goes_on p m l has in absurd (cc))
    | inr t ↦ (let (k, few, w) = win_within r n (r.play p m) (t.1 (r.play p m) (map_from (r.play p) (r.moves p) m has)) in (k, omega arith, w))
  ]

  -- from a won position the best move leads to a nearer loss
  pub best_won : (p : Position) (m n : ℕ) → IsBestMove r p (Some m) → HasValue r p Win n → (k : ℕ) × (k < n) × HasValue r (r.play p m) Lose k
  best_won p m n b h =
      let (k, here, e) = step_value r p m Win n b h in
      (k, (let far : k + 1 ≡ n = ap (λ (s : Solved). s.remoteness) e in omega arith), here)

  pub won_at : (p : Position) (s : Side) (n : ℕ) (o : Option End) → IsWonIn r p s n → r.primitive p ≡ o → r.primitive p ≢ None → HasWon r p s
  won_at p s n None w e h = absurd (h e)
  won_at p Computer n (Some EndWin) w e h = e
  won_at p You n (Some EndLose) w e h = e
  won_at p Computer n (Some EndLose) w e h = absurd (never_both r 0 n p (loses_at_end r 0 p e) w.0)
  won_at p Computer n (Some EndTie) w e h = absurd (no_win_of_tie r 0 p (ties_at_end r 0 p e) n w.0)
  won_at p You n (Some EndWin) w e h = absurd (never_both r n 0 p w.0 (wins_at_end r 0 p e))
  won_at p You n (Some EndTie) w e h = absurd (no_loss_of_tie r 0 p (ties_at_end r 0 p e) n w.0)

  -- the computer's side has not lost
  abbrev pub IsSafe : Position → Side → Type 0
  IsSafe p Computer = (n : ℕ) → loses r n p ≡ false
  IsSafe p You = (n : ℕ) → wins r n p ≡ false

  pub even_safe : (p : Position) (s : Side) → IsEven r p → IsSafe p s
  even_safe p Computer (n, inl h) = λ k. false_unless (loses r k p) (no_loss_of_tie r n p h.0 k)
  even_safe p Computer (n, inr h) = h.1
  even_safe p You (n, inl h) = λ k. false_unless (wins r k p) (no_win_of_tie r n p h.0 k)
  even_safe p You (n, inr h) = h.2

  pub reply_safe : (p : Position) (m : ℕ) → r.is_legal p ≡ true → Contains (r.moves p) m → IsSafe p You → IsSafe (r.play p m) Computer
  reply_safe p m l has safe n =
      false_unless (loses r n (r.play p m)) (λ e. (let w = wins_from r n p (r.play p m) (goes_on p m l has) (map_from (r.play p) (r.moves p) m has) e in let
      f = safe (suc n) in absurd (cc)))

  pub best_safe : (p : Position) (m : ℕ) (v : Value) (own k : ℕ) → HasValue r p v own → HasValue r (r.play p m) (wanted_from v) k → IsSafe p Computer →
      IsSafe (r.play p m) You
  best_safe p m Lose own k h w safe n = (let f = safe own in let e = h.0 in absurd (cc))
  best_safe p m Draw own k h w safe n = w.2 n
  best_safe p m Tie own k h w safe n = false_unless (wins r n (r.play p m)) (no_win_of_tie r k (r.play p m) w.0 n)
  best_safe p m Win own k h w safe n = false_unless (wins r n (r.play p m)) (λ e. never_both r k n (r.play p m) w.0 e)

  pub not_lost : (p : Position) (s : Side) → IsSafe p s → HasLost r p s → ⊥
  not_lost p Computer safe e = (let l = loses_at_end r 0 p e in let f = safe 0 in cc)
  not_lost p You safe e = (let w = wins_at_end r 0 p e in let f = safe 0 in cc)
