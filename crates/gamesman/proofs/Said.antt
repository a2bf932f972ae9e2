-- What is said on standard error.
use Rattle.gamesman.proofs.Lower.{◌≡◌, ◌∙◌, ℕ, List, [], ◌∷◌, ◌++◌, Option, None, Some, Result, Ok, Err, sym, ap, subst, append-nil, inl, inr, Appends, AppendsPart}
use Rattle.std.proofs.Common.{IfSome, OnErr}
use Rattle.std.specs.Prelude.{OnOk, codes, option_map}
use Rattle.std.specs.Fmt.{WritesText, ◌++?◌}
use Rattle.std.proofs.lemmas.Fmt.{contents_after_writes}
use Rattle.gamesman.specs.LineRuns.{IsLineRun, IsOutputOf}

-- a text is written, or a first part of it if the write fails
pub part_put : {A E : Type 0} (text : List ℕ) (a b : Option (List ℕ)) (result : Result A E) → OnOk result (Appends a b text) → OnErr result (AppendsPart a b text)
    → AppendsPart a b text
part_put text a b (Ok x) whole part = (text, [], sym (append-nil text), whole)
part_put text a b (Err e) whole part = part

-- the line of a fault is written, or a first part of it
pub said_part : (out : Option (List ℕ)) (line bytes : List ℕ) (a b : Option (List ℕ)) → bytes ≡ line → IfSome out (λ text. line ≡ text) → AppendsPart a b bytes
    → IfSome out (AppendsPart a b)
said_part None line bytes a b is text part = tt
said_part (Some x) line bytes a b is text part = subst (AppendsPart a b) (is ∙ text) part

-- the output and the status do not depend on what is said
pub unsaid : (IsSaid : List ℕ → Type 0) (words : List (List ℕ)) (input before after : Option (List ℕ)) (status : ℕ) → IsLineRun IsSaid words input before after status
    → IsOutputOf words input before after status
unsaid IsSaid words input before after status (inl answered) = inl answered
unsaid IsSaid words input before after status (inr (inl (bad, is, kept, said))) = inr (inl (bad, is, kept, tt))
unsaid IsSaid words input before after status (inr (inr (inl help))) = inr (inr (inl help))
unsaid IsSaid words input before after status (inr (inr (inr (is, kept, said)))) = inr (inr (inr (is, kept, tt)))

-- the words of a fault are written between the program's name and a line end
module _ {W : Type 0} (took : W → List ℕ → W → Type 0) (contents : W → List ℕ)
    (appends : (w : W) (bs : List ℕ) (v : W) → took w bs v → contents v ≡ contents w ++ bs) (w v : W) (empty : contents w ≡ []) where
  pub line_written : (out : Option (List ℕ)) → WritesText took w (Some (codes "gamesman: ") ++? out ++? Some (10 ∷ [])) v
      → IfSome (option_map (λ words. codes "gamesman: " ++ words ++ codes "\n") out) (λ text. contents v ≡ text)
  line_written None writes = tt
  line_written (Some words) writes =
      let text = codes "gamesman: " ++ words ++ 10 ∷ [] in
      contents_after_writes took contents appends w text v writes ∙ ap (λ l. l ++ text) empty
