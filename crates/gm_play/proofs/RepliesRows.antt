-- A row or a line for each of some moves, with one more.
use Rattle.gm_play.proofs.Lower.{◌≡◌, ℕ, ◌+◌, ◌<◌, List, [], ◌∷◌, ◌++◌, length, take, get_or, refl, sym, ap, subst, ◌∙◌, take_more, MoveValue}
use Rattle.std.proofs.lemmas.List.{append-nil, append_assoc}
use Rattle.gm_play.specs.Replies.{AreInTurn}

module _ (IsRow : MoveValue → List ℕ → Type 0) where
  turn_more : (xs : List MoveValue) (x : MoveValue) (old row new : List ℕ) → AreInTurn IsRow xs old → IsRow x row → new ≡ old ++ row
      → AreInTurn IsRow (xs ++ x ∷ []) new
  turn_more [] x old row new h is e = (row, [], is, refl, e ∙ ap (λ (l : List ℕ). l ++ row) h ∙ sym (append-nil row))
  turn_more (y ∷ ys) x old row new (first, rest, begins, are, split) is e =
      (first, rest ++ row, begins, turn_more ys x rest row (rest ++ row) are is refl, e ∙ ap (λ (l : List ℕ). l ++ row) split ∙ append_assoc first rest row)

  -- the rows up to one more move
  pub turn_next : (xs : List MoveValue) (k : ℕ) (d : MoveValue) (old new row : List ℕ) → k < length xs → AreInTurn IsRow (take k xs) old
      → IsRow (get_or xs k d) row → new ≡ old ++ row → AreInTurn IsRow (take (k + 1) xs) new
  turn_next xs k d old new row inside h is e =
      subst (λ (ys : List MoveValue). AreInTurn IsRow ys new) (sym (take_more xs k d inside)) (turn_more (take k xs) (get_or xs k d) old row new h is e)
