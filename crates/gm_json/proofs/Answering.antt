-- The answer about a position, put together.
use Rattle.gm_json.proofs.Lower.{◌≡◌, ℕ, Bool, true, false, List, refl, sym, ap, ◌∙◌, if◌then◌else◌, Members, member, compact_text, Position, Rules, MoveValue, move_trees, position_members, None, Some, inl, inr, subst, IsAnswer}
use Rattle.gm_game.specs.declared.position.Solved.{Solved}
use Rattle.gm_play.specs.PlayTexts.{AreMovesOf}
use Rattle.gm_json.specs.Extras.{extras}
use Rattle.serde_json.specs.Data.{object}
use Rattle.gm_play.specs.Firsts.{chosen}
use Rattle.gm_json.specs.declared.asked.Asked.{Asked}
use Rattle.gm_json.specs.Answers.{answer_members, IsOtherAnswer, IsPositionJson, IsReported}
use Rattle.gm_json.specs.Places.{IsAskedAs, IsAskedAsNone}
use Rattle.gm_play.specs.Dialogue.{without_return}
use Rattle.std.specs.Prelude.{codes, ◌↔◌}

not_both : (b : Bool) → b ≡ true → b ≡ false → ⊥
not_both true e h = let z : ⊥ = cc in z
not_both false e h = let z : ⊥ = cc in z

module _ (r : Rules) (shown : Position → List ℕ) (move_shown : Position → ℕ → List ℕ) (asked : Asked) (tiers out : List ℕ) (p : Position)
    (legal : r.is_legal p ≡ true) where
  pub with_moves : (xs : List MoveValue) → AreMovesOf r asked.distinct p xs → IsReported r shown move_shown asked tiers p xs out → IsPositionJson r shown
      move_shown asked tiers (shown p) out
  with_moves xs found told = record {
    position = p;
    read = (legal, refl);
    value = told.value;
    is_true = told.is_true;
    list = found.list;
    moves = λ _. (found.values, found.best);
    best = told.best;
    along = told.along;
    out_is = told.out_is ∙ ap (λ (ys : List MoveValue). compact_text (object (answer_members r shown move_shown asked p told.value ys
        (extras r shown move_shown asked.with tiers p told.best)))) found.are;
  }

  -- the moves are not told
  same_members : (s : Solved) (xs ys : List MoveValue) (more : Members) → asked.values ≡ true → answer_members r shown move_shown asked p s xs more ≡
      answer_members r shown move_shown asked p s ys more
  same_members s xs ys more e =
      let tail = position_members r shown move_shown p s more in
      let told : List MoveValue → Bool → Members = λ (zs : List MoveValue) (b : Bool). if b then tail else member (codes "moves")
      (move_trees r shown move_shown p zs) tail in
      ap (told xs) e ∙ sym (ap (told ys) e)

  pub without_moves : (xs : List MoveValue) → asked.values ≡ true → IsReported r shown move_shown asked tiers p xs out → IsPositionJson r shown move_shown asked
      tiers (shown p) out
  without_moves xs e told = record {
    position = p;
    read = (legal, refl);
    value = told.value;
    is_true = told.is_true;
    list = xs;
    moves = λ h. absurd (not_both asked.values e h);
    best = told.best;
    along = told.along;
    out_is = told.out_is ∙ ap (λ (ms : Members). compact_text (object ms)) (same_members told.value xs (chosen r asked.distinct xs)
        (extras r shown move_shown asked.with tiers p told.best) e);
  }

module _ (r : Rules) (shown : Position → List ℕ) (move_shown : Position → ℕ → List ℕ) (asked : Asked) (tiers line : List ℕ) (n : ℕ) (text out : List ℕ)
    (cut : text ≡ without_return line) where
  -- the line asks about a position
  pub answered : (p q : Position) → IsAskedAs r shown move_shown text p → q ≡ p → IsPositionJson r shown move_shown asked tiers (shown q) out → IsAnswer r
      shown move_shown asked tiers line n out
  answered p q is same json =
      let of_p = subst (λ (x : Position). IsPositionJson r shown move_shown asked tiers (shown x) out) same json in
      elim (subst (λ (t : List ℕ). IsAskedAs r shown move_shown t p) cut is) [
        | inl read ↦ inl (subst (λ (t : List ℕ). IsPositionJson r shown move_shown asked tiers t out) read.1 of_p)
        | inr place ↦ inr (inl (p, place, of_p))
      ]

  -- the line asks about none
  pub unanswered : ((p : Position) → (None ≡ Some p) ↔ IsAskedAs r shown move_shown text p) → IsOtherAnswer r shown move_shown asked tiers text n out
      → IsAnswer r shown move_shown asked tiers line n out
  unanswered none other =
      let nothing : IsAskedAsNone r shown move_shown text = λ p is. absurd (let some : None ≡ Some p = (none p).1 is in cc) in
      inr (inr (
        subst (λ (t : List ℕ). IsAskedAsNone r shown move_shown t) cut nothing,
        subst (λ (t : List ℕ). IsOtherAnswer r shown move_shown asked tiers t n out) cut other,
      ))

-- what a line asks about is legal
pub asked_legal : (r : Rules) (shown : Position → List ℕ) (move_shown : Position → ℕ → List ℕ) (line : List ℕ) (p : Position)
    → IsAskedAs r shown move_shown line p → r.is_legal p ≡ true
asked_legal r shown move_shown line p (inl read) = read.0
asked_legal r shown move_shown line p (inr place) = place.2
