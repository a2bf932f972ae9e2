-- The lines of a line of play.
use Rattle.gm_json.proofs.Lower.{◌≡◌, ℕ, List, [], ◌∷◌, ◌++◌, refl, sym, ap, ◌∙◌, Position, Rules, AreBest, text, line_of, step_tree, steps_from}
use Rattle.std.proofs.lemmas.List.{append-nil, append_assoc}
use Rattle.gm_game.specs.declared.position.Solved.{Solved}
use Rattle.gm_game.specs.Values.{IsTrueValue}
use Rattle.gm_play.specs.PlayTexts.{after_best}
use Rattle.gm_play.proofs.Rows.{after_true}
use Rattle.gm_json.specs.Lines.{AreSteps}

module _ (r : Rules) (shown : Position → List ℕ) (move_shown : Position → ℕ → List ℕ) where
  pub steps_true : (ms : List ℕ) (p : Position) (s : Solved) → AreBest r p ms → IsTrueValue r p s → AreSteps r shown move_shown p ms
      (steps_from r shown move_shown p s ms)
  steps_true [] p s best h = refl
  steps_true (m ∷ ms) p s best h =
      let next = after_true r p m s best.0 h in
      (after_best s, steps_from r shown move_shown (r.play p m) (after_best s) ms, next, steps_true ms (r.play p m) (after_best s) best.1 next, refl)

  -- one line more
  pub steps_next : (p q : Position) (s t : Solved) (m : ℕ) (ms done more all : List ℕ) → q ≡ r.play p m → t ≡ after_best s → more ≡ done ++ line_of
      (step_tree shown (text (move_shown p m)) q t)
      → done ++ steps_from r shown move_shown p s (m ∷ ms) ≡ all → more ++ steps_from r shown move_shown q t ms ≡ all
  steps_next p q s t m ms done more all e f w h =
      let line : Position → Solved → List ℕ = λ x u. line_of (step_tree shown (text (move_shown p m)) x u) in
      let rest = steps_from r shown move_shown q t ms in
      let here : line q t ++ rest ≡ steps_from r shown move_shown p s (m ∷ ms) = ap (λ (x : Position). line x t ++ steps_from r shown move_shown x t ms) e
      ∙ ap (λ (u : Solved). line (r.play p m) u ++ steps_from r shown move_shown (r.play p m) u ms) f in
      ap (λ (x : List ℕ). x ++ rest) w ∙ append_assoc done (line q t) rest ∙ ap (λ (x : List ℕ). done ++ x) here ∙ h

-- the last line after the others
pub steps_end : (done first steps ends more : List ℕ) → done ++ [] ≡ first ++ steps → more ≡ done ++ ends → more ≡ first ++ steps ++ ends
steps_end done first steps ends more h e = e ∙ ap (λ (x : List ℕ). x ++ ends) (sym (append-nil done) ∙ h)
