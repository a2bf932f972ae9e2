-- The lines that a person writes.
use Rattle.gm_play.proofs.Lower.{◌≡◌, ℕ, Bool, true, false, List, [], ◌∷◌, codes, Option, None, Some, refl, sym, ap, ap₂, ◌∙◌, subst, inl, inr, Contains, bytes_eq, Position, Rules, contains_none, contains_first, without_return}
use Rattle.std.specs.List.{find}
use Rattle.gm_game.proofs.Lists.{contains_later, contains_cases}
use Rattle.std.proofs.Common.{cond}
use Rattle.std.specs.Prelude.{◌↔◌}
use Rattle.gm_play.specs.Dialogue.{move_read}
use Rattle.std.proofs.lemmas.Slice.Eq.{bytes_eq-Decides}

module _ {X : Type 0} (test : X → Bool) where
  find_first : (y x : X) (ys : List X) (b : Bool) → (find test ys ≡ Some x → Contains ys x × (test x ≡ true)) → test y ≡ b → cond b (Some y) (find test ys)
      ≡ Some x → Contains (y ∷ ys) x × (test x ≡ true)
  find_first y x ys true h t e = (let s : y ≡ x = cc in (subst (Contains (y ∷ ys)) s (contains_first y ys), sym (ap test s) ∙ t))
  find_first y x ys false h t e = (let (has, s) = h e in (contains_later y x ys has, s))

  pub find_is : (xs : List X) (x : X) → find test xs ≡ Some x → Contains xs x × (test x ≡ true)
  find_is [] x e = absurd (cc)
  find_is (y ∷ ys) x e = find_first y x ys (test y) (find_is ys x) refl e

  none_first : (y : X) (ys : List X) (b : Bool) → test y ≡ b → cond b (Some y) (find test ys) ≡ None → (b ≡ false) × (find test ys ≡ None)
  none_first y ys true t e = absurd (cc)
  none_first y ys false t e = (refl, e)

  pub find_none : (xs : List X) → find test xs ≡ None → (x : X) → Contains xs x → test x ≡ true → ⊥
  find_none [] e x has t = contains_none x has
  find_none (y ∷ ys) e x has t =
      let (f, rest) = none_first y ys (test y) refl e in
      elim (contains_cases y x ys has) [ inl s ↦ (let g : test y ≡ true = ap test s ∙ t in absurd (cc)) | inr i ↦ find_none ys rest x i t ]

  pub none_found : (xs : List X) → ((x : X) → Contains xs x → test x ≡ false) → find test xs ≡ None
  none_found [] h = refl
  none_found (y ∷ ys) h = rw (h y (contains_first y ys)) (none_found ys (λ x has. h x (contains_later y x ys has)))

module _ (r : Rules) (shown : Position → List ℕ) (move_shown : Position → ℕ → List ℕ) (p : Position) (text : List ℕ) where
  abbrev test : ℕ → Bool
  test m = bytes_eq (move_shown p m) text

  -- o is the move with this text
  abbrev pub IsReadAs : Option ℕ → Type 0
  IsReadAs o = (m : ℕ) → (o ≡ Some m) ↔ (Contains (r.moves p) m × (move_shown p m ≡ text))

  found : (o f : Option ℕ) → find test (r.moves p) ≡ f → IsReadAs o → f ≡ o
  found None None e h = refl
  found None (Some m) e h = (let (has, t) = find_is test (r.moves p) m e in let x = (h m).1 (has, (bytes_eq-Decides (move_shown p m) text).0 t) in absurd (cc))
  found (Some n) None e h = (let (has, t) = (h n).0 refl in absurd (find_none test (r.moves p) e n has ((bytes_eq-Decides (move_shown p n) text).1 t)))
  found (Some n) (Some m) e h = (let (has, t) = find_is test (r.moves p) m e in sym ((h m).1 (has, (bytes_eq-Decides (move_shown p m) text).0 t)))

-- the move that is read, from a line that has become this text
pub read_is : (r : Rules) (shown : Position → List ℕ) (move_shown : Position → ℕ → List ℕ) (p : Position) (line text : List ℕ) (o : Option ℕ)
    → text ≡ without_return line → IsReadAs r shown move_shown p text o → move_read r shown move_shown p (without_return line) ≡ o
read_is r shown move_shown p line text o t h =
    ap (move_read r shown move_shown p) (sym t) ∙ found r shown move_shown p text o (find (test r shown move_shown p text) (r.moves p)) refl h

-- a line that is compared after it has become this text
pub compared : (line text quit : List ℕ) (b : Bool) → text ≡ without_return line → quit ≡ codes "quit" → b ≡ bytes_eq text quit
    → bytes_eq (without_return line) (codes "quit") ≡ b
compared line text quit b t q e = ap₂ bytes_eq (sym t) (sym q) ∙ sym e
