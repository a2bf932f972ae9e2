-- Texts that open no tag.
use Rattle.gm_page.proofs.Lower.{◌≡◌, ℕ, true, List, [], ◌∷◌, refl, ap, ◌∙◌, inl, inr, flat_map, cases_Bool, cond-true, cond-false, Data, script_byte, script_line}
use Rattle.std.proofs.lemmas.Bool.{and_from}
use Rattle.std.proofs.Common.{eqb, not}
use Rattle.std.specs.List.{list_all}
use Rattle.std.proofs.lemmas.List.Folds.{list_all-append}
use Rattle.gm_page.specs.Scripts.{opens_none, script_text}
use Rattle.gm_json.specs.Words.{line_of}
use Rattle.gm_page.specs.Pages.{script_lines}

byte_opens_none : (b : ℕ) → list_all opens_none (script_byte b) ≡ true
byte_opens_none b = elim (cases_Bool (eqb b 60)) [
  | inl e ↦ ap (list_all opens_none) (cond-true _ _ _ e)
  | inr e ↦ ap (list_all opens_none) (cond-false _ _ _ e) ∙ and_from _ _ (ap not e) refl
]

each_opens_none : {X : Type 0} (f : X → List ℕ) → ((x : X) → list_all opens_none (f x) ≡ true) → (xs : List X) → list_all opens_none (flat_map f xs) ≡ true
each_opens_none f each [] = refl
each_opens_none f each (x ∷ xs) = list_all-append opens_none (f x) (flat_map f xs) ∙ and_from _ _ (each x) (each_opens_none f each xs)

-- no byte of a text opens a tag
pub text_opens_none : (xs : List ℕ) → list_all opens_none (script_text xs) ≡ true
unfolding script_text
text_opens_none xs = each_opens_none script_byte byte_opens_none xs

-- no byte of the lines of a page opens a tag
pub lines_open_none : (head : Data) (rows : List Data) → list_all opens_none (script_lines head rows) ≡ true
lines_open_none head rows = list_all-append opens_none (script_line head) (flat_map script_line rows) ∙ and_from _ _ (text_opens_none (line_of head))
    (each_opens_none script_line (λ d. text_opens_none (line_of d)) rows)
