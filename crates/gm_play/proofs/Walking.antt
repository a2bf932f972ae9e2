-- Lines of best play: their state after some moves, and their length.
use Rattle.gm_play.proofs.Lower.{◌≡◌, ◌≢◌, ℕ, zero, suc, ◌+◌, ◌<◌, ◌≤◌, inl, inr, true, List, [], ◌∷◌, ◌++◌, length, take, get_or, Option, None, Contains-get_or, IsGame, Some, refl, sym, ap, subst, ◌∙◌, arith, Contains, cases_lt, length-append, length-take-le, End, Position, Value, Lose, Draw, Tie, Win, solved, Rules, HasValue, HasValue_once, loses_zero, ties_at_end, AreBest, wanted_from, IsBestMove, position_after, worth_from}
use Rattle.std.proofs.Common.{slice_get}
use Rattle.gm_game.proofs.Steps.{wins_zero, loses_at_end, wins_at_end}
use Rattle.std.proofs.lemmas.List.{get_or_append_left}
use Rattle.std.proofs.lemmas.Option.{slice_get_within, get_or_from_slice_get, slice_get-get_or}
use Rattle.gm_play.specs.declared.best_line.BestLine.{BestLine}
use Rattle.gm_play.specs.declared.best_line.LineEnd.{LineEnd}
use Rattle.gm_play.specs.BestLines.{positions_along, AreFresh, EndsSo, IsBestLine, IsWhole}
use Rattle.std.proofs.Math.Seq.{get_or-append_seam, take-append_seam}
use Rattle.gm_game.specs.declared.position.End.TheVariants.{Lose as EndLose, Tie as EndTie, Win as EndWin}
use Rattle.gm_play.specs.declared.best_line.LineEnd.TheVariants.{Over, Again, Cut}
use Rattle.gm_play.proofs.Lowering.{step_value}

-- one more move
best_push : (r : Rules) (p : Position) (ms : List ℕ) (m : ℕ) → AreBest r p ms → IsBestMove r (position_after r p ms) (Some m) → AreBest r p (ms ++ m ∷ [])
best_push r p [] m h b = (b, tt)
best_push r p (n ∷ ns) m h b = (h.0, best_push r (r.play p n) ns m h.1 b)

pub after_push : (r : Rules) (p : Position) (ms : List ℕ) (m : ℕ) → position_after r p (ms ++ m ∷ []) ≡ r.play (position_after r p ms) m
after_push r p [] m = refl
after_push r p (n ∷ ns) m = after_push r (r.play p n) ns m

along_push : (r : Rules) (p : Position) (ms : List ℕ) (m : ℕ) → positions_along r p (ms ++ m ∷ []) ≡ positions_along r p ms ++ r.play
    (position_after r p ms) m ∷ []
along_push r p [] m = refl
along_push r p (n ∷ ns) m = ap (λ (ps : List Position). p ∷ ps) (along_push r (r.play p n) ns m)

along_length : (r : Rules) (p : Position) (ms : List ℕ) → length (positions_along r p ms) ≡ length ms + 1
along_length r p [] = refl
along_length r p (m ∷ ms) = (let e = along_length r (r.play p m) ms in omega arith)

fresh_one : (p : Position) → AreFresh (p ∷ [])
fresh_one p i j d less inside = absurd (omega arith)

pub fresh_push : (ps : List Position) (q : Position) → AreFresh ps → (Contains ps q → ⊥) → AreFresh (ps ++ q ∷ [])
fresh_push ps q fresh new i j d less inside same =
    let long : length (ps ++ q ∷ []) ≡ length ps + 1 = length-append ps (q ∷ []) in
    let i_in : i < length ps = omega arith in
    let at_i : get_or (ps ++ q ∷ []) i d ≡ get_or ps i d = get_or_append_left ps (q ∷ []) d i i_in in
    elim (cases_lt j (length ps)) [
      | inl j_in ↦ fresh i j d less j_in (sym at_i ∙ same ∙ get_or_append_left ps (q ∷ []) d j j_in)
      | inr past ↦ (
          let e : j ≡ length ps = omega arith in
          let at_j : get_or (ps ++ q ∷ []) j d ≡ q = ap (λ (k : ℕ). get_or (ps ++ q ∷ []) k d) e ∙ get_or-append_seam ps q [] d in
          new (subst (Contains ps) (sym at_i ∙ same ∙ at_j) (Contains-get_or ps i d i_in)))
    ]

-- the state of a line after some moves
pub record IsOnWay (r : Rules) (start : Position) (limit : ℕ) (moves : List ℕ) (positions : List Position) (p : Position) : Type 0 where
  pub best : AreBest r start moves
  pub along : positions ≡ positions_along r start moves
  pub here : p ≡ position_after r start moves
  pub legal : r.is_legal p ≡ true
  pub few : length moves ≤ limit

pub begins : (r : Rules) (start : Position) (limit : ℕ) → r.is_legal start ≡ true → IsOnWay r start limit [] (start ∷ []) start × AreFresh (start ∷ [])
begins r start limit legal = (record { best = tt; along = refl; here = refl; legal = legal; few = omega arith }, fresh_one start)

-- the line with these moves
pub line_is : {r : Rules} {start p : Position} {limit : ℕ} {line : BestLine} → IsOnWay r start limit line.moves.items line.positions.items p
    → EndsSo r start limit line.moves.items line.end → IsBestLine r start limit line
line_is h e = record { best = h.best; positions = h.along; few = h.few; end = e }

module _ {r : Rules} {start p : Position} {limit : ℕ} {moves : List ℕ} {positions : List Position} (h : IsOnWay r start limit moves positions p) where
  pub goes_on : (m : ℕ) (q : Position) → IsGame r → IsBestMove r p (Some m) → q ≡ r.play p m → length moves < limit
      → IsOnWay r start limit (moves ++ m ∷ []) (positions ++ q ∷ []) q
  goes_on m q g b e low = rw e record {
    best = best_push r start moves m h.best (subst (λ (x : Position). IsBestMove r x (Some m)) h.here b);
    along = rw (h.along, h.here) (sym (along_push r start moves m));
    here = ap (λ (x : Position). r.play x m) h.here ∙ sym (after_push r start moves m);
    legal = g.play_legal p m h.legal b.1.best.there;
    few = (let long = length-append moves (m ∷ []) in omega arith);
  }

  pub ends_over : AreFresh positions → r.primitive p ≢ None → EndsSo r start limit moves Over
  ends_over fresh over = (λ none. over (ap r.primitive h.here ∙ none), subst AreFresh h.along fresh)

  pub ends_cut : AreFresh positions → r.primitive p ≡ None → limit ≤ length moves → EndsSo r start limit moves Cut
  ends_cut fresh open_ all = (ap r.primitive (sym h.here) ∙ open_, (let few = h.few in omega arith), subst AreFresh h.along fresh)

  -- the last position has occurred before
  pub ends_again : (front : List Position) (k : ℕ) → positions ≡ front ++ p ∷ [] → AreFresh front → slice_get front k ≡ Some p
      → EndsSo r start limit moves (Again k)
  ends_again front k e fresh there =
      let inside : k < length front = slice_get_within front k p there in
      let long : length front ≡ length moves =
      (let a = length-append front (p ∷ []) in let b = along_length r start moves in let c = ap length (sym e ∙ h.along) in omega arith) in
      let found : slice_get (front ++ p ∷ []) k ≡ Some p = slice_get-get_or (front ++ p ∷ []) k p (let a = length-append front (p ∷ []) in omega arith)
      ∙ ap Some (get_or_append_left front (p ∷ []) p k inside ∙ get_or_from_slice_get front k p p there) in (
        omega arith,
        rw (sym h.along, sym h.here, e) found,
        rw (sym h.along, e, sym long, take-append_seam front (p ∷ [])) fresh,
      )

-- along a line of best moves the remoteness falls by one a move
abbrev Falls : Rules → Position → List ℕ → ℕ → Type 0
Falls r p ms n = (w : Value) × (j : ℕ) × (w ≢ Draw) × (j + length ms ≡ n) × HasValue r (position_after r p ms) w j

same_far : (v : Value) (k n : ℕ) → v ≢ Draw → worth_from (wanted_from v) k ≡ solved v n → (wanted_from v ≢ Draw) × (k + 1 ≡ n)
same_far Draw k n d e = absurd (d refl)
same_far v k n d e = (λ f. absurd (cc), ap (λ s. s.remoteness) e)

falls : (r : Rules) (ms : List ℕ) (p : Position) (v : Value) (n : ℕ) → AreBest r p ms → HasValue r p v n → v ≢ Draw → Falls r p ms n
falls r [] p v n best h d = (v, n, d, omega arith, h)
falls r (m ∷ ms) p v n best h d =
    let (k, here, e) = step_value r p m v n best.0 h in
    let (other, far) = same_far v k n d e in
    let (w, j, drawless, sum, value) = falls r ms (r.play p m) (wanted_from v) k best.1 here other in
    (w, j, drawless, omega arith, value)

stays_drawn : (r : Rules) (ms : List ℕ) (p : Position) (n : ℕ) → AreBest r p ms → HasValue r p Draw n → (k : ℕ) × HasValue r (position_after r p ms) Draw k
stays_drawn r [] p n best h = (n, h)
stays_drawn r (m ∷ ms) p n best h = let (k, here, e) = step_value r p m Draw n best.0 h in stays_drawn r ms (r.play p m) k best.1 here

best_take : (r : Rules) (ms : List ℕ) (p : Position) (k : ℕ) → AreBest r p ms → AreBest r p (take k ms)
best_take r ms p zero best = tt
best_take r [] p (suc k) best = tt
best_take r (m ∷ ms) p (suc k) best = (best.0, best_take r ms (r.play p m) k best.1)

get_along : (r : Rules) (ms : List ℕ) (p : Position) (k : ℕ) (d : Position) → k ≤ length ms → get_or (positions_along r p ms) k d ≡ position_after r p
    (take k ms)
get_along r [] p zero d low = refl
get_along r (m ∷ ms) p zero d low = refl
get_along r [] p (suc k) d low = absurd (omega arith)
get_along r (m ∷ ms) p (suc k) d low = get_along r ms (r.play p m) k d (omega arith)

-- a value at the end of a game
end_value : (r : Rules) (p : Position) (o : Option End) → r.primitive p ≡ o → r.primitive p ≢ None → (v : Value) × (v ≢ Draw) × HasValue r p v 0
end_value r p None e over = absurd (over e)
end_value r p (Some EndLose) e over = (Lose, λ d. absurd (cc), (loses_at_end r 0 p e, λ m l. absurd (omega arith)))
end_value r p (Some EndTie) e over = (Tie, λ d. absurd (cc), (ties_at_end r 0 p e, λ m l. absurd (omega arith)))
end_value r p (Some EndWin) e over = (Win, λ d. absurd (cc), (wins_at_end r 0 p e, λ m l. absurd (omega arith)))

over_at_zero : (r : Rules) (p : Position) (v : Value) → v ≢ Draw → HasValue r p v 0 → r.primitive p ≢ None
over_at_zero r p Lose d h none = (let e = loses_zero r p h.0 in cc)
over_at_zero r p Draw d h none = d refl
over_at_zero r p Tie d h none = (let e = h.0 in cc)
over_at_zero r p Win d h none = (let e = wins_zero r p h.0 in cc)

module _ (r : Rules) (p : Position) (limit : ℕ) (ms : List ℕ) (best : AreBest r p ms) where
  again_never : (k : ℕ) (v : Value) (n : ℕ) → HasValue r p v n → v ≢ Draw → EndsSo r p limit ms (Again k) → ⊥
  again_never k v n h d (low, there, fresh) =
      let (w, j, x, sum, value) = falls r ms p v n best h d in
      let (u, i, y, total, before) = falls r (take k ms) p v n (best_take r ms p k best) h d in
      let same : position_after r p (take k ms) ≡ position_after r p ms = sym (get_along r ms p k p (omega arith)) ∙ get_or_from_slice_get
      (positions_along r p ms) k (position_after r p ms) p there in
      let e : i ≡ j = (HasValue_once r (position_after r p ms) u w i j (subst (λ (q : Position). HasValue r q u i) same before) value).1 in
      let short : length (take k ms) ≡ k = length-take-le k ms (omega arith) in
      omega arith

  abbrev IsOverAt : ℕ → LineEnd → Type 0
  IsOverAt n end = (end ≡ Over) × (length ms ≡ n)

  over_is : (end : LineEnd) (v : Value) (n : ℕ) → HasValue r p v n → v ≢ Draw → n ≤ limit → EndsSo r p limit ms end → IsOverAt n end
  over_is Over v n h d low (over, fresh) =
      let (w, j, x, sum, value) = falls r ms p v n best h d in
      let (u, y, ended) = end_value r (position_after r p ms) (r.primitive (position_after r p ms)) refl over in
      let e : j ≡ 0 = (HasValue_once r (position_after r p ms) w u j 0 value ended).1 in
      (refl, omega arith)
  over_is (Again k) v n h d low ends = absurd (again_never k v n h d ends)
  over_is Cut v n h d low (open_, all, fresh) =
      let (w, j, x, sum, value) = falls r ms p v n best h d in
      let e : j ≡ 0 = omega arith in
      absurd (over_at_zero r (position_after r p ms) w x (subst (HasValue r (position_after r p ms) w) e value) open_)

  cut_is : (end : LineEnd) (v : Value) (n : ℕ) → HasValue r p v n → v ≢ Draw → limit < n → length ms ≤ limit → EndsSo r p limit ms end → end ≡ Cut
  cut_is Over v n h d low few (over, fresh) =
      let (w, j, x, sum, value) = falls r ms p v n best h d in
      let (u, y, ended) = end_value r (position_after r p ms) (r.primitive (position_after r p ms)) refl over in
      let e : j ≡ 0 = (HasValue_once r (position_after r p ms) w u j 0 value ended).1 in
      absurd (omega arith)
  cut_is (Again k) v n h d low few ends = absurd (again_never k v n h d ends)
  cut_is Cut v n h d low few ends = refl

  drawn_is : (end : LineEnd) (n : ℕ) → HasValue r p Draw n → EndsSo r p limit ms end → end ≢ Over
  drawn_is Over n h (over, fresh) e =
      let (k, value) = stays_drawn r ms p n best h in
      let (u, y, ended) = end_value r (position_after r p ms) (r.primitive (position_after r p ms)) refl over in
      y (HasValue_once r (position_after r p ms) u Draw 0 k ended value).0
  drawn_is (Again k) n h ends e = absurd (cc)
  drawn_is Cut n h ends e = absurd (cc)

pub whole : (r : Rules) (p : Position) (limit : ℕ) (line : BestLine) → IsBestLine r p limit line → IsWhole r p limit line
whole r p limit line h = record {
  over = λ v n x d low. over_is r p limit line.moves.items h.best line.end v n x d low h.end;
  cut = λ v n x d low. cut_is r p limit line.moves.items h.best line.end v n x d low h.few h.end;
  drawn = λ n x. drawn_is r p limit line.moves.items h.best line.end n x h.end;
}
