-- The answers to the texts that an object stands for, one more of them.
use Rattle.gm_json.proofs.Lower.{◌≡◌, ℕ, Bool, true, ◌<◌, ◌+◌, List, [], ◌∷◌, ◌++◌, length, get_or, map, take, codes, Option, None, Some, inl, inr, refl, sym, ap, subst, ◌∙◌, arith, append_assoc, Position, Rules, Data, compact_text}
use Rattle.std.proofs.Common.{append-nil}
use Rattle.std.specs.Prelude.{◌↔◌, IfSome, option_map, if◌then◌else◌}
use Rattle.std.proofs.lemmas.Bool.{cases_Bool}
use Rattle.serde_json.specs.Find.{get}
use Rattle.std.proofs.Common.{suc, Result, Ok, Err, IsErrOf}
use Rattle.std.proofs.lemmas.List.{map_more, get_or-map, length-map}
use Rattle.std.proofs.lemmas.List.Elements.{Contains-get_or}
use Rattle.std.specs.List.{Contains}
use Rattle.std.specs.Result.{IsErrAnd}
use Rattle.gm_json.specs.declared.asked.Asked.{Asked}
use Rattle.gm_json.specs.Answers.{IsPositionJson, IsTextAnswer, AreTextAnswers, error_tree}
use Rattle.gm_json.specs.Objects.{id_in, is_id, with_id}
use Rattle.gm_json.specs.Places.{IsAskedAs}

module _ (r : Rules) (shown : Position → List ℕ) (move_shown : Position → ℕ → List ℕ) (asked : Asked) (tiers text out : List ℕ) (n : ℕ) where
  -- the text asks about a position
  pub text_answered : (p : Position) → IsAskedAs r shown move_shown text p → IsPositionJson r shown move_shown asked tiers (shown p) out → IsTextAnswer r shown
      move_shown asked tiers text n out
  text_answered p (inl read) json = inl (subst (λ (t : List ℕ). IsPositionJson r shown move_shown asked tiers t out) read.1 json)
  text_answered p (inr place) json = inr (inl (p, place, json))

  -- it asks about none
  pub text_unanswered : ((p : Position) → (None ≡ Some p) ↔ IsAskedAs r shown move_shown text p) → out ≡ compact_text (error_tree n text) → IsTextAnswer r shown
      move_shown asked tiers text n out
  text_unanswered none e = inr (inr (λ p is. absurd (let some : None ≡ Some p = (none p).1 is in cc), e))

abbrev ends : List ℕ → List ℕ
ends text = text ++ codes "\n"

module _ (r : Rules) (shown : Position → List ℕ) (move_shown : Position → ℕ → List ℕ) (asked : Asked) (tiers : List ℕ) (id : Option Data) (n : ℕ) where
  pub first_text : (t out all : List ℕ) → IsTextAnswer r shown move_shown asked tiers t n out → all ≡ with_id id out → AreTextAnswers r shown move_shown asked
      tiers id n (t ∷ []) (ends all)
  first_text t out all is e = (out, [], is, ap ends e ∙ sym (append-nil (ends (with_id id out))), refl)

  more_text : (ts : List (List ℕ)) (all t out : List ℕ) → AreTextAnswers r shown move_shown asked tiers id n ts all → IsTextAnswer r shown move_shown asked tiers
      t n out → AreTextAnswers r shown move_shown asked tiers id n (ts ++ t ∷ []) (all ++ ends (with_id id out))
  more_text [] all t out none is =
      (out, [], is, ap (λ (l : List ℕ). l ++ ends (with_id id out)) none ∙ sym (append-nil (ends (with_id id out))), refl)
  more_text (x ∷ xs) all t out (o, rest, says, e, more) is = (
    o,
    rest ++ ends (with_id id out),
    says,
    ap (λ (l : List ℕ). l ++ ends (with_id id out)) e ∙ append_assoc (ends (with_id id o)) rest (ends (with_id id out)),
    more_text xs rest t out more is,
  )

  pub next_text : {X : Type 0} (f : X → List ℕ) (xs : List X) (k : ℕ) (d : X) (before : List (List ℕ)) (old mid new out : List ℕ) → k < length xs
      → AreTextAnswers r shown move_shown asked tiers id n (before ++ map f (take k xs)) (ends old) → mid ≡ ends old → new ≡ mid ++ with_id id out
      → IsTextAnswer r shown move_shown asked tiers (f (get_or xs k d)) n out
      → AreTextAnswers r shown move_shown asked tiers id n (before ++ map f (take (k + 1) xs)) (ends new)
  next_text f xs k d before old mid new out within h m e is =
      let w = with_id id out in
      let texts : (before ++ map f (take k xs)) ++ f (get_or xs k d) ∷ [] ≡ before ++ map f (take (k + 1) xs) =
      append_assoc before (map f (take k xs)) (f (get_or xs k d) ∷ []) ∙ ap (λ (ls : List (List ℕ)). before ++ ls) (sym (map_more f xs k d within)) in
      let all : ends old ++ ends w ≡ ends new = sym (append_assoc (ends old) w (codes "\n")) ∙ ap (λ (t : List ℕ). ends (t ++ w)) (sym m) ∙ ap ends (sym e) in
      subst (λ (ts : List (List ℕ)). AreTextAnswers r shown move_shown asked tiers id n ts (ends new)) texts
      (subst (AreTextAnswers r shown move_shown asked tiers id n ((before ++ map f (take k xs)) ++ f (get_or xs k d) ∷ [])) all
      (more_text (before ++ map f (take k xs)) (ends old) (f (get_or xs k d)) out h is))

-- an id that an answer has is one
named : (o : Option Data) (id : Data) → (if (elim o [ None ↦ true | Some i ↦ is_id i ]) then o else None) ≡ Some id → is_id id ≡ true
named None id e = absurd (let z : ⊥ = cc in z)
named (Some i) id e = elim (cases_Bool (is_id i)) [
  | inl h ↦ (let same : Some i ≡ Some id = ap (λ (b : Bool). if b then Some i else None) (sym h) ∙ e in
      let is : i ≡ id = cc in subst (λ (j : Data). is_id j ≡ true) is h)
  | inr h ↦ absurd (let none : None ≡ Some id = ap (λ (b : Bool). if b then Some i else None) (sym h) ∙ e in cc)
]

pub id_given : {X : Type 0} (f : X → Data) (o : Option X) (d : Data) → option_map f o ≡ id_in d → IfSome o (λ v. is_id (f v) ≡ true)
id_given f None d e = tt
id_given f (Some v) d e = named (get (codes "id") d) (f v) (sym e)

-- ---- texts of a list, and errors that are passed on
pub contains_item : {X : Type 0} (f : X → List ℕ) (xs : List X) (k : ℕ) (x : X) → k < length xs → x ≡ get_or xs k x → Contains (map f xs) (f x)
contains_item f xs k x within is =
    let long : k < length (map f xs) = omega (arith, within, length-map xs f) in
    subst (λ (t : List ℕ). Contains (map f xs) t) (get_or-map f xs k x (f x) within ∙ ap f (sym is)) (Contains-get_or (map f xs) k (f x) long)

pub contains_later : {X : Type 0} (f : X → List ℕ) (xs : List X) (x : X) (rest : List X) (t : List ℕ) → xs ≡ x ∷ rest → Contains (map f rest) t
    → Contains (map f xs) t
contains_later f xs x rest t e (i, within, is) = subst (λ (ys : List _). Contains (map f ys) t) (sym e) (suc i, omega (arith, within), is)

pub err_of : {T U E : Type 0} (r : Result T E) (e x : E) → IsErrAnd r (λ y. y ≡ e) → IsErrOf r x → IsErrOf {T = U} (Err e) x
err_of (Ok v) e x h o = absurd (let z : ⊥ = cc in z)
err_of (Err y) e x h o = let is : y ≡ x = cc in ap (λ z. Err z) (sym h ∙ is)
