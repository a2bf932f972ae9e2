-- What the computer's best moves guarantee for any replies.
use Rattle.gm_play.proofs.Lower.{◌≡◌, ◌≢◌, ℕ, ◌≤◌, inl, inr, true, List, [], ◌∷◌, length, None, refl, sym, ap, ◌∙◌, subst, arith, Position, Rules, IsGame, Side, You, Computer, PlayLine, IsWonIn, IsEven, HasLost, position_after, IsLinePlayed}
use Rattle.gm_play.specs.Sides.{HasWon}
use Rattle.gm_play.specs.Lines.{side_after, IsLine, LeadsTo, WinsWithin}
use Rattle.gm_play.proofs.Keeping.{goes_on, best_once, reply_won, best_won, won_at, IsSafe, even_safe, reply_safe, best_safe, not_lost}

module _ (r : Rules) (g : IsGame r) where
  abbrev KeepsWin : Position → Side → List ℕ → ℕ → Type 0
  KeepsWin p s ms n = (length ms ≤ n) × (r.primitive (position_after r p ms) ≢ None → HasWon r (position_after r p ms) (side_after s ms))

  -- a line from a won position
  line_won : (ms : List ℕ) (p : Position) (s : Side) (replies : List ℕ) (n : ℕ) → r.is_legal p ≡ true → IsLine r p s replies ms → IsWonIn r p s n → KeepsWin
      p s ms n
  line_won [] p s replies n l line w = (omega arith, won_at r g p s n (r.primitive p) w refl)
  line_won (m ∷ ms) p Computer replies n l line w =
      let (k, few, v) = best_won r g p m n line.0 w in
      let b = line.0.1 in
      let t = line_won ms (r.play p m) You replies k (g.play_legal p m l b.best.there) line.1 v in
      ((let a = t.0 in omega arith), t.1)
  line_won (m ∷ ms) p You [] n l line w = absurd line
  line_won (m ∷ ms) p You (q ∷ qs) n l line w =
      let (k, few, v) = reply_won r g p m n l line.1 w in
      let t = line_won ms (r.play p m) Computer qs k (g.play_legal p m l line.1) line.2 v in
      ((let a = t.0 in omega arith), t.1)

  line_safe : (ms : List ℕ) (p : Position) (s : Side) (replies : List ℕ) → r.is_legal p ≡ true → IsLine r p s replies ms → IsSafe r g p s → HasLost r
      (position_after r p ms) (side_after s ms) → ⊥
  line_safe [] p s replies l line safe = not_lost r g p s safe
  line_safe (m ∷ ms) p Computer replies l line safe =
      let b = line.0.1 in
      line_safe ms (r.play p m) You replies (g.play_legal p m l b.best.there) line.1
      (best_safe r g p m b.value b.own b.remoteness b.is_value b.best.reaches safe)
  line_safe (m ∷ ms) p You [] l line safe = absurd line
  line_safe (m ∷ ms) p You (q ∷ qs) l line safe = line_safe ms (r.play p m) Computer qs (g.play_legal p m l line.1) line.2 (reply_safe r g p m l line.1 safe)

  -- a line that has ended has no longer line with the same replies
  no_longer : (n : ℕ) (ns : List ℕ) (p : Position) (s : Side) (replies : List ℕ) → r.is_legal p ≡ true → IsLine r p s replies [] → IsLine r p s replies
      (n ∷ ns) → ⊥
  no_longer n ns p Computer replies l (inl e) b = e b.0.0
  no_longer n ns p Computer replies l (inr e) b = (let f = e.0 in absurd (cc))
  no_longer n ns p You [] l a b = b
  no_longer n ns p You (q ∷ qs) l (inl e) b = e (goes_on r g p n l b.1)
  no_longer n ns p You (q ∷ qs) l (inr e) b = (let f = e.1 in absurd (cc))

  -- the line with these replies is unique
  line_once : (ms ns : List ℕ) (p : Position) (s : Side) (replies : List ℕ) → r.is_legal p ≡ true → IsLine r p s replies ms → IsLine r p s replies ns → ms ≡ ns
  line_once [] [] p s replies l a b = refl
  line_once [] (n ∷ ns) p s replies l a b = absurd (no_longer n ns p s replies l a b)
  line_once (m ∷ ms) [] p s replies l a b = absurd (no_longer m ms p s replies l b a)
  line_once (m ∷ ms) (n ∷ ns) p Computer replies l a b =
      let e : n ≡ m = best_once r p n m b.0 a.0 in
      let t = a.0.1 in
      let rest : IsLine r (r.play p m) You replies ns = subst (λ (x : ℕ). IsLine r (r.play p x) You replies ns) e b.1 in
      let same : ms ≡ ns = line_once ms ns (r.play p m) You replies (g.play_legal p m l t.best.there) a.1 rest in
      cc
  line_once (m ∷ ms) (n ∷ ns) p You [] l a b = absurd a
  line_once (m ∷ ms) (n ∷ ns) p You (q ∷ qs) l a b =
      let e : n ≡ m = sym b.0 ∙ a.0 in
      let rest : IsLine r (r.play p m) Computer qs ns = subst (λ (x : ℕ). IsLine r (r.play p x) Computer qs ns) e b.2 in
      let same : ms ≡ ns = line_once ms ns (r.play p m) Computer qs (g.play_legal p m l a.1) a.2 rest in
      cc

  pub played_every : (p : Position) (s : Side) (replies moves : List ℕ) (end : PlayLine) → r.is_legal p ≡ true → IsLinePlayed r p s replies end → IsLine r p s
      replies moves → LeadsTo r p s moves end
  played_every p s replies moves end l (ms, line, leads) other = subst (λ (xs : List ℕ). LeadsTo r p s xs end) (line_once ms moves p s replies l line other)
      leads

  -- a line that is played has both properties
  pub played_won : (p : Position) (s : Side) (replies : List ℕ) (end : PlayLine) (n : ℕ) → r.is_legal p ≡ true → IsLinePlayed r p s replies end → IsWonIn r p s
      n → WinsWithin r n end
  played_won p s replies end n l (moves, line, leads) w =
      let t = line_won moves p s replies n l line w in
      let few = t.0 in
      let number = leads.number in (
        omega arith,
        λ h. rw (leads.position, leads.side) (t.1 (λ e. h (ap r.primitive leads.position ∙ e))),
      )

  pub played_even : (p : Position) (s : Side) (replies : List ℕ) (end : PlayLine) → r.is_legal p ≡ true → IsLinePlayed r p s replies end → IsEven r p → HasLost
      r end.position end.side → ⊥
  played_even p s replies end l (moves, line, leads) even lost =
      line_safe moves p s replies l line (even_safe r g p s even) (rw (leads.position, leads.side) at lost)
