-- A line is answered from its kept prefix as from the whole line, because no move has a longer text.
use Rattle.gm_play.proofs.Lower.{◌≡◌, ℕ, ◌+◌, ◌-◌, ◌≤◌, ◌<◌, ◌⊎◌, inl, inr, Bool, true, false, List, [], ◌∷◌, ◌++◌, length, take, drop, codes, sym, ap, ◌∙◌, arith, ◌==◌, if◌then◌else◌, bytes_eq, cases_lt, take_all, length-take-le, length-append, Position, Rules, refl, text_after, IsShown, KEPT, Advice, Said, without_return, reply, closing, Question}
use Rattle.std.proofs.lemmas.List.{length-take, take-append-le}
use Rattle.gm_play.specs.Dialogue.{asks}
use Rattle.gm_play.specs.declared.view.Question.TheVariants.{Again}
use Rattle.std.proofs.Common.{nat_eq}
use Rattle.gm_game.specs.declared.limits.TheConstants.{LINE}
use Rattle.std.specs.Cmp.Lexicographic.{unequal}
use Rattle.gm_play.proofs.Reading.{none_found}

-- one more byte
pub kept_push : (kept line : List ℕ) (b : ℕ) → kept ≡ take KEPT line → length kept < KEPT → kept ++ b ∷ [] ≡ take KEPT (line ++ b ∷ [])
kept_push kept line b e short =
    let n : length kept ≡ length (take KEPT line) = ap length e in
    let few : length line < KEPT = omega (arith, n, short, length-take KEPT line) in
    ap (λ (l : List ℕ). l ++ b ∷ []) (e ∙ take_all KEPT line (omega (arith, few))) ∙ sym
    (take_all KEPT (line ++ b ∷ []) (omega (arith, few, length-append line (b ∷ []))))

pub kept_full : (kept line : List ℕ) (b : ℕ) → kept ≡ take KEPT line → length kept ≡ KEPT → kept ≡ take KEPT (line ++ b ∷ [])
kept_full kept line b e full =
    let n : length kept ≡ length (take KEPT line) = ap length e in
    e ∙ sym (take-append-le KEPT line (b ∷ []) (omega (arith, n, full, length-take KEPT line)))

text_of_length : (line : List ℕ) (c : Bool) (n : ℕ) → n < length line → n ≤ length (if c then take (length line - 1) line else line)
text_of_length line true n h = omega (arith, h, length-take-le (length line - 1) line (omega arith))
text_of_length line false n h = omega (arith, h)

text_long : (line : List ℕ) (n : ℕ) → n < length line → n ≤ length (without_return line)
text_long line n h = text_of_length line (bytes_eq (drop (length line - 1) line) (13 ∷ [])) n h

module _ (r : Rules) (shown : Position → List ℕ) (move_shown : Position → ℕ → List ℕ) (t : IsShown r shown move_shown) (k : Advice)
    (seen : Question → Position → List ℕ) (p : Position) (legal : r.is_legal p ≡ true) where
  no_move : (line : List ℕ) → LINE + 1 < length line → asks (codes "not a move\n" ++ seen Again p ++ codes "your move?\n") p ≡ reply r shown move_shown k
      seen p line
  no_move line long =
      let text = without_return line in
      let many : LINE + 1 ≤ length text = text_long line (LINE + 1) long in
      rw (unequal nat_eq text (codes "quit") (λ e. omega (arith, e, many)))
      (rw (none_found (λ m. bytes_eq (move_shown p m) text) (r.moves p)
      (λ m has. unequal nat_eq (move_shown p m) text (λ e. (let fits = t.move_shown_fits p m legal has in omega (arith, e, fits, many))))) refl)

  heard_if : (line : List ℕ) → (KEPT < length line) ⊎ (length line ≤ KEPT) → reply r shown move_shown k seen p (take KEPT line) ≡ reply r shown move_shown k
      seen p line
  heard_if line (inl long) = sym (no_move (take KEPT line) (omega (arith, long, length-take KEPT line))) ∙ no_move line (omega (arith, long))
  heard_if line (inr short) = ap (reply r shown move_shown k seen p) (take_all KEPT line short)

  pub heard : (line : List ℕ) → reply r shown move_shown k seen p (take KEPT line) ≡ reply r shown move_shown k seen p line
  heard line = heard_if line (cases_lt KEPT (length line))

  some_bytes : (n : ℕ) → 0 < n → (n == 0) ≡ false
  some_bytes n h = grind arith

  closed_if : (line : List ℕ) → (KEPT < length line) ⊎ (length line ≤ KEPT) → closing r shown move_shown k seen p (take KEPT line) ≡ closing r shown
      move_shown k seen p line
  closed_if line (inl long) =
      rw (some_bytes (length (take KEPT line)) (omega (arith, long, length-take KEPT line)), some_bytes (length line) (omega (arith, long)))
      (ap (λ (s : Said). s.text ++ text_after (λ q. codes "input ended\n") s.asked) (heard line))
  closed_if line (inr short) = ap (closing r shown move_shown k seen p) (take_all KEPT line short)

  pub closed : (line : List ℕ) → closing r shown move_shown k seen p (take KEPT line) ≡ closing r shown move_shown k seen p line
  closed line = closed_if line (cases_lt KEPT (length line))
