-- Each position of a list once.
use Rattle.gm_immediate.proofs.Lower.{◌≡◌, ℕ, ◌+◌, ◌<◌, ◌≤◌, inl, inr, true, List, [], ◌∷◌, ◌++◌, length, length-append, get_or, sym, subst, ◌∙◌, arith, Contains, Position}
use Rattle.std.proofs.Common.{◌%◌, Bool, false, take, set, get_or-set_other, get_or-set_same}
use Rattle.std.proofs.lemmas.List.{take_more, length-set}
use Rattle.std.proofs.lemmas.Bool.{cases_eq}
use Rattle.gm_game.specs.Children.{HasSame}
use Rattle.gm_game.proofs.Lists.{contains_none, contains_first}
use Rattle.gm_table.proofs.Distinct.{no_repeats_append}
use Rattle.gm_immediate.specs.inner.Gathered.{AreMarked}
use Rattle.std.proofs.lemmas.List.Elements.{Contains-push_cases, Contains-append_left, Contains-append_right}
use Rattle.gm_game.proofs.Counts.{HasNoRepeats}

-- of the first n positions of a list each stands once in `once`, and is marked
pub record AreListed (list : List Position) (n : ℕ) (once : List Position) (marks : List Bool) : Type 0 where
  pub same : HasSame (take n list) once
  pub once_each : HasNoRepeats once
  pub few : length once ≤ n
  pub long : length marks ≡ 1024
  pub marked : AreMarked marks once

-- what is marked stays so
still_marked : (marks : List Bool) (m k : ℕ) → m < length marks → get_or marks k false ≡ true → get_or (set marks m true) k false ≡ true
still_marked marks m k inside h = elim (cases_eq k m) [
  | inl e ↦ subst (λ (i : ℕ). get_or (set marks m true) i false ≡ true) (sym e) (get_or-set_same marks m true false inside)
  | inr n ↦ get_or-set_other marks m k true false n ∙ h
]

module _ (list once : List Position) (marks : List Bool) (n : ℕ) (d : Position) (inside : n < length list) (old : AreListed list n once marks) where
  -- a position that is there already
  pub listed_old : Contains once (get_or list n d) → AreListed list (n + 1) once marks
  listed_old there = record {
    same = λ c. (
      λ h. subst (λ (ps : List Position). Contains ps c) (sym (take_more list n d inside))
          (Contains-append_left (take n list) (get_or list n d ∷ []) c ((old.same c).0 h)),
      λ h. elim (Contains-push_cases (take n list) (get_or list n d) c (subst (λ (ps : List Position). Contains ps c) (take_more list n d inside) h)) [
        | inl k ↦ (old.same c).1 k
        | inr e ↦ subst (Contains once) e there
      ],
    );
    once_each = old.once_each;
    few = (let few = old.few in omega arith);
    long = old.long;
    marked = old.marked;
  }

  -- and one that is new
  pub listed_new : (m : ℕ) → m ≡ (get_or list n d).index % 1024 → m < 1024 → (Contains once (get_or list n d) → ⊥)
      → AreListed list (n + 1) (once ++ get_or list n d ∷ []) (set marks m true)
  listed_new m mark small new =
      let p = get_or list n d in
      let long = old.long in
      let within : m < length marks = omega arith in
      record {
        same = λ c. (
          λ h. subst (λ (ps : List Position). Contains ps c) (sym (take_more list n d inside)) (elim (Contains-push_cases once p c h) [
            | inl k ↦ Contains-append_left (take n list) (p ∷ []) c ((old.same c).0 k)
            | inr e ↦ Contains-append_right (take n list) (p ∷ []) c (subst (Contains (p ∷ [])) e (contains_first p []))
          ]),
          λ h. elim (Contains-push_cases (take n list) p c (subst (λ (ps : List Position). Contains ps c) (take_more list n d inside) h)) [
            | inl k ↦ Contains-append_left once (p ∷ []) c ((old.same c).1 k)
            | inr e ↦ Contains-append_right once (p ∷ []) c (subst (Contains (p ∷ [])) e (contains_first p []))
          ],
        );
        once_each = no_repeats_append once (p ∷ []) old.once_each ((λ h. contains_none p h), tt) (λ c h k. elim (Contains-push_cases [] p c k) [
          | inl i ↦ contains_none c i
          | inr e ↦ new (subst (Contains once) (sym e) h)
        ]);
        few = (let few = old.few in let sum = length-append once (p ∷ []) in omega arith);
        long = length-set marks m true ∙ old.long;
        marked = λ c h. elim (Contains-push_cases once p c h) [
          | inl k ↦ still_marked marks m (c.index % 1024) within (old.marked c k)
          | inr e ↦ subst (λ (q : Position). get_or (set marks m true) (q.index % 1024) false ≡ true) e
              (subst (λ (i : ℕ). get_or (set marks m true) i false ≡ true) mark (get_or-set_same marks m true false within))
        ];
      }
