-- What a line has that words and a line end were written into.
use Rattle.gm_build.proofs.Lower.{◌≡◌, ℕ, ◌++◌, List, [], ◌∷◌, Some, Result, Err, ap, subst, ◌∙◌}
use Rattle.std.proofs.Common.{false, Option, None, Ok, OnOk, IfSome, codes}
use Rattle.std.specs.Result.{is_err}
use Rattle.std.specs.Fmt.{WritesText, ◌++?◌}
use Rattle.std.specs.Io.KnownBytes.{Appends}
use Rattle.std.proofs.lemmas.Result.{on_ok_weaker}
use Rattle.std.proofs.lemmas.Fmt.{contents_after_writes}

module _ {W E F : Type 0} (took : W → List ℕ → W → Type 0) (contents : W → List ℕ)
    (appends : (w : W) (bs : List ℕ) (v : W) → took w bs v → contents v ≡ contents w ++ bs) (w v : W) (empty : contents w ≡ []) where
  -- where such a line is written, the words and a line end are
  pub line_written : (out : Option (List ℕ)) (r : Result (Unit {0}) E) → is_err r ≡ false → OnOk r (WritesText took w (out ++? Some (10 ∷ [])) v)
      → (before after : Option (List ℕ)) (bytes : List ℕ) → bytes ≡ contents v → (s : Result (Unit {0}) F) → OnOk s (Appends before after bytes)
      → OnOk s (IfSome out (λ text. Appends before after (text ++ codes "\n")))
  line_written None r ok writes before after bytes e s a = on_ok_weaker s (λ _. tt) a
  line_written (Some text) (Ok _) ok writes before after bytes e s a =
      let t = contents_after_writes took contents appends w (text ++ 10 ∷ []) v writes in
      on_ok_weaker s (subst (Appends before after) (e ∙ t ∙ ap (λ l. l ++ (text ++ 10 ∷ [])) empty)) a
  line_written (Some text) (Err _) ok writes before after bytes e s a = absurd (cc)
