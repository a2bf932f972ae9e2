-- The texts of Connect Four are plain, fit a line, and tell positions and moves apart.
use Rattle.std.specs.Prelude.{◌≡◌, ◌+◌, ◌∷◌}
use Rattle.gm_pieces.specs.Common.{ℕ, [], refl, arith, and_both, cells_text, text_length, text_once, text_plain, AreTexts}
use Rattle.gm_game.proofs.PlainTexts.{plain_in}
use Rattle.gm_connect.specs.declared.size.Size.{Size}
use Rattle.gm_connect.specs.ConnectFour.{connect_four}
use Rattle.gm_connect.specs.Texts.{step_text}
use Rattle.gm_connect.specs.laws.BoardFacts.{few_columns, few_cells, legal_in}

same_digit : (a b : ℕ) → (49 + a) ∷ [] ≡ (49 + b) ∷ [] → a ≡ b
same_digit a b e = let z : 49 + a ≡ 49 + b = cc in omega (arith, z)

-- the laws of texts
pub readable : (s : Size) → AreTexts (connect_four s) cells_text (λ t c. step_text c)
unfolding step_text
readable s = record {
  text_plain = λ b l. text_plain b;
  text_fits = λ b l. let a = text_length b in let e = (legal_in s b l).cells_are in let m = few_cells s in omega (arith, a, e, m);
  text_once = λ a b l k e. text_once a b e;
  step_plain = λ b c l h. let low = h.below in let few = few_columns s in and_both _ _ (plain_in (49 + c) (omega arith) (omega (arith, low, few))) refl;
  step_fits = λ b c l h. omega arith;
  step_once = λ b j k l h i e. same_digit j k e;
}
