-- The lines of moves with their answers, with one more.
use Rattle.gm_json.proofs.Lower.{◌≡◌, ℕ, ◌+◌, ◌<◌, List, [], ◌∷◌, ◌++◌, length, take, get_or, refl, sym, ap, subst, ◌∙◌, append_assoc, Position, Rules, MoveValue}
use Rattle.std.proofs.lemmas.List.{append-nil, take_more}
use Rattle.gm_json.specs.Whys.{IsReplyLine, AreReplyLines}

module _ (r : Rules) (shown : Position → List ℕ) (move_shown : Position → ℕ → List ℕ) (p : Position) where
  lines_more : (xs : List MoveValue) (x : MoveValue) (old line new : List ℕ) → AreReplyLines r shown move_shown p xs old → IsReplyLine r shown move_shown p x line
      → new ≡ old ++ line → AreReplyLines r shown move_shown p (xs ++ x ∷ []) new
  lines_more [] x old line new h is e = (line, [], is, refl, e ∙ ap (λ (l : List ℕ). l ++ line) h ∙ sym (append-nil line))
  lines_more (y ∷ ys) x old line new (first, rest, begins, are, split) is e =
      (first, rest ++ line, begins, lines_more ys x rest line (rest ++ line) are is refl, e ∙ ap (λ (l : List ℕ). l ++ line) split ∙ append_assoc first rest line)

  -- the lines up to one more move
  pub lines_next : (xs : List MoveValue) (k : ℕ) (d : MoveValue) (old new : List ℕ) → k < length xs → AreReplyLines r shown move_shown p (take k xs) old
      → ((line : List ℕ) × IsReplyLine r shown move_shown p (get_or xs k d) line × (new ≡ old ++ line)) → AreReplyLines r shown move_shown p (take (k + 1) xs) new
  lines_next xs k d old new inside h (line, is, e) =
      subst (λ (ys : List MoveValue). AreReplyLines r shown move_shown p ys new) (sym (take_more xs k d inside))
      (lines_more (take k xs) (get_or xs k d) old line new h is e)
