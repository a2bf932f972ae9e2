-- A line of play, move by move.
use Rattle.gm_play.proofs.Lower.{◌≡◌, ◌≢◌, ℕ, ◌+◌, ◌≤◌, ◌⊎◌, inl, inr, List, [], ◌∷◌, length, Option, None, Some, refl, sym, ap, ◌∙◌, subst, arith, Contains, Rules, IsGame, Side, You, Computer, PlayLine, IsBestMove, IsReached, position_after, IsLinePlayed}
use Rattle.std.specs.Prelude.{MatchOption, IfSome}
use Rattle.gm_play.specs.Lines.{side_after, IsLine, IsReplied, one_more, IsAfterComputersTurn}
use Rattle.gm_play.specs.Sides.{other}
use Rattle.gm_play.proofs.Keeping.{best_once}
use Rattle.gm_play.proofs.Reaching.{played_reached, reached_reached}

-- a line with these further moves
abbrev after : Rules → PlayLine → List ℕ → PlayLine
after r line [] = line
after r line (m ∷ ms) = after r (one_more r line m) ms

after_is : (r : Rules) (ms : List ℕ) (line : PlayLine) → ((after r line ms).position ≡ position_after r line.position ms)
    × ((after r line ms).side ≡ side_after line.side ms) × ((after r line ms).moves ≡ line.moves + length ms)
after_is r [] line = (refl, refl, omega arith)
after_is r (m ∷ ms) line = let t = after_is r ms (one_more r line m) in (t.0, t.1, (let e = t.2 in omega arith))

-- a line goes on with these replies to this end; if there is no end, one of the replies is no move
abbrev pub ComesTo : Rules → List ℕ → PlayLine → Option PlayLine → Type 0
ComesTo r replies line None = (ms : List ℕ) → IsLine r line.position line.side replies ms → ⊥
ComesTo r replies line (Some end) = (ms : List ℕ) × IsLine r line.position line.side replies ms × (end ≡ after r line ms)

pub played : (r : Rules) (replies : List ℕ) (line : PlayLine) (o : Option PlayLine) → line.moves ≡ 0 → ComesTo r replies line o
    → MatchOption o ((ms : List ℕ) → IsLine r line.position line.side replies ms → ⊥) (IsLinePlayed r line.position line.side replies)
played r replies line None z h = h
played r replies line (Some end) z (ms, l, e) =
    let t = after_is r ms line in
    let number : end.moves ≡ (after r line ms).moves = ap (λ (x : PlayLine). x.moves) e in
    let all = t.2 in
    (ms, l, record { position = ap (λ (x : PlayLine). x.position) e ∙ t.0; side = ap (λ (x : PlayLine). x.side) e ∙ t.1; number = omega arith })

module _ (r : Rules) (line : PlayLine) where
  -- one more move
  moved : (m : ℕ) (replies rest : List ℕ) (o : Option PlayLine)
      → ((ms : List ℕ) → IsLine r (r.play line.position m) (other line.side) rest ms → IsLine r line.position line.side replies (m ∷ ms))
      → ((ms : List ℕ) → IsLine r line.position line.side replies ms → (ks : List ℕ) × IsLine r (r.play line.position m) (other line.side) rest ks)
      → ComesTo r rest (one_more r line m) o → ComesTo r replies line o
  moved m replies rest None go back h = λ ms l. (let (ks, k) = back ms l in h ks k)
  moved m replies rest (Some end) go back (ms, l, e) = (m ∷ ms, go ms l, e)

  -- the computer's best move, and then the other moves
  best_left : (m : ℕ) (replies ms : List ℕ) → IsBestMove r line.position (Some m) → IsLine r line.position Computer replies ms
      → (ks : List ℕ) × IsLine r (r.play line.position m) You replies ks
  best_left m replies [] b (inl e) = absurd (e b.0)
  best_left m replies [] b (inr e) = (let f = e.0 in absurd (cc))
  best_left m replies (k ∷ ks) b h = (ks, subst (λ (x : ℕ). IsLine r (r.play line.position x) You replies ks) (best_once r line.position k m h.0 b) h.1)

  -- the reply, and then the other moves
  reply_left : (q : ℕ) (rest ms : List ℕ) → r.primitive line.position ≡ None → IsLine r line.position You (q ∷ rest) ms
      → Contains (r.moves line.position) q × (ks : List ℕ) × IsLine r (r.play line.position q) Computer rest ks
  reply_left q rest [] open_ (inl e) = absurd (e open_)
  reply_left q rest [] open_ (inr e) = (let f = e.1 in absurd (cc))
  reply_left q rest (k ∷ ks) open_ h = (
    subst (λ (x : ℕ). Contains (r.moves line.position) x) (sym h.0) h.1,
    ks,
    subst (λ (x : ℕ). IsLine r (r.play line.position x) Computer rest ks) (sym h.0) h.2,
  )

module _ (r : Rules) where
  -- the line after the computer's move
  pub answers : (s : Side) (line new : PlayLine) (replies : List ℕ) (o : Option PlayLine) → line.side ≡ s → IsAfterComputersTurn r s line new → ComesTo r
      replies new o
      → ComesTo r replies line o
  answers You line new replies o e a h = subst (λ (x : PlayLine). ComesTo r replies x o) a h
  answers Computer line new replies o e (inl a) h = subst (λ (x : PlayLine). ComesTo r replies x o) a.1 h
  answers Computer line new replies o e (inr (m, b, q)) h =
      moved r line m replies replies o
      (rw e (λ ms l. (b, l)))
      (rw e (λ ms l. best_left r line m replies ms b l))
      (subst (λ (x : PlayLine). ComesTo r replies x o) q h)

  -- then it's the other side's turn, or the game has ended
  turn : (s : Side) (line new : PlayLine) → line.side ≡ s → IsAfterComputersTurn r s line new → (new.side ≡ You) ⊎ (r.primitive new.position ≢ None)
  turn You line new e a = inl (subst (λ (x : PlayLine). x.side ≡ You) (sym a) e)
  turn Computer line new e (inl a) = inr (subst (λ (x : PlayLine). r.primitive x.position ≢ None) (sym a.1) a.0)
  turn Computer line new e (inr (m, b, q)) = inl (subst (λ (x : PlayLine). x.side ≡ You) (sym q) (ap other e))

  -- no reply remains
  pub ends_last : (line new : PlayLine) → IsAfterComputersTurn r line.side line new → ComesTo r [] new (Some new)
  ends_last line new a = ([], elim (turn line.side line new refl a) [ inl e ↦ inr (e, refl) | inr e ↦ inl e ], refl)

  module _ (line a : PlayLine) (is : IsAfterComputersTurn r line.side line a) (open_ : r.primitive a.position ≡ None) (q : ℕ) (rest : List ℕ) where
    yours : a.side ≡ You
    yours = elim (turn line.side line a refl is) [ inl e ↦ e | inr e ↦ absurd (e open_) ]

    -- the reply is a move, or not
    pub replies_on : (new : PlayLine) (o : Option PlayLine) → IsReplied r a q (Some new) → ComesTo r rest new o → ComesTo r (q ∷ rest) a o
    replies_on new o t h =
        moved r a q (q ∷ rest) rest o
        (rw yours (λ ms l. (refl, t.0, l)))
        (rw yours (λ ms l. (let t = reply_left r a q rest ms open_ l in (t.1, t.2))))
        (subst (λ (x : PlayLine). ComesTo r rest x o) t.1 h)

    pub replies_not : IsReplied r a q None → ComesTo r (q ∷ rest) a None
    replies_not none = rw yours (λ ms l. none (reply_left r a q rest ms open_ l).0)

module _ (r : Rules) (g : IsGame r) (tier : ℕ) where
  reached_more : (line : PlayLine) (m : ℕ) → IsReached r tier line.position → Contains (r.moves line.position) m → IsReached r tier (one_more r line m).position
  reached_more line m h has = reached_reached r tier line.position (r.play line.position m) h (played_reached r g line.position m h.0 has)

  pub reached_answered : (s : Side) (old new : PlayLine) → IsAfterComputersTurn r s old new → IsReached r tier old.position → IsReached r tier new.position
  reached_answered You old new a h = subst (λ (x : PlayLine). IsReached r tier x.position) (sym a) h
  reached_answered Computer old new (inl a) h = subst (λ (x : PlayLine). IsReached r tier x.position) (sym a.1) h
  reached_answered Computer old new (inr (m, b, q)) h =
      subst (λ (x : PlayLine). IsReached r tier x.position) (sym q) (reached_more old m h b.1.best.there)

  pub reached_replied : (q : ℕ) (old new : PlayLine) → IsReplied r old q (Some new) → IsReached r tier old.position → IsReached r tier new.position
  reached_replied q old new t h = subst (λ (x : PlayLine). IsReached r tier x.position) (sym t.1) (reached_more old q h t.0)

-- the number of moves
pub moves_answered : (r : Rules) (s : Side) (old new : PlayLine) → IsAfterComputersTurn r s old new → new.moves ≤ old.moves + 1
moves_answered r You old new a = (let e = ap (λ (x : PlayLine). x.moves) a in omega arith)
moves_answered r Computer old new (inl a) = (let e = ap (λ (x : PlayLine). x.moves) a.1 in omega arith)
moves_answered r Computer old new (inr (m, b, q)) = (let e = ap (λ (x : PlayLine). x.moves) q in omega arith)

pub moves_replied : (r : Rules) (reply : ℕ) (old new : PlayLine) → IsReplied r old reply (Some new) → new.moves ≡ old.moves + 1
moves_replied r reply old new a = ap (λ (x : PlayLine). x.moves) a.1

pub if_some : (o : Option PlayLine) (P : Type 0) (Q R : PlayLine → Type 0) → MatchOption o P Q → ((e : PlayLine) → Q e → R e) → IfSome o R
if_some None P Q R h f = tt
if_some (Some e) P Q R h f = f e h
