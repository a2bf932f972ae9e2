-- The indexes at a place with one record more, and a run with one index more.
use Rattle.gm_table.proofs.Lower.{◌≡◌, ℕ, suc, ◌<◌, ◌+◌, ◌==◌, Bool, true, false, if◌then◌else◌, List, [], ◌∷◌, ◌++◌, map, set, take, length, get_or, refl, sym, ap, ◌∙◌, subst, arith, Option, None, inl, inr, eq-eqb, ne_eqb, take_more, length-map, length-take, Solved, Phase, WinLose, Ties, level_in, indexes_at, run_in, record_at}
use Rattle.std.proofs.Common.{slice_index_or, Vec}
use Rattle.std.proofs.lemmas.List.{map-set, get_or-map, get_or-set_same, get_or-set_other}
use Rattle.std.proofs.lemmas.Bool.{cases_eq}
use Rattle.std.specs.declared.alloc.Global.{Global}
use Rattle.gm_table.specs.Levels.{is_level, indexes_from}
use Rattle.gm_table.specs.inner.Runs.{run_at}
use Rattle.gm_table.proofs.LevelLemmas.{record_read}

push_first : (c : Bool) (k : ℕ) → (if c then k ∷ [] else []) ≡ (if c then (k + 0) ∷ [] else [])
push_first true k = let e : k ≡ k + 0 = omega arith in ap (λ i. i ∷ []) e
push_first false k = refl

push_later : (b c : Bool) (k : ℕ) (ys zs : List ℕ) (i j : ℕ) → i ≡ j → ys ≡ (if c then zs ++ i ∷ [] else zs)
    → (if b then k ∷ ys else ys) ≡ (if c then (if b then k ∷ zs else zs) ++ j ∷ [] else (if b then k ∷ zs else zs))
push_later true true k ys zs i j e h = ap (λ l. k ∷ l) (h ∙ ap (λ x. zs ++ x ∷ []) e)
push_later true false k ys zs i j e h = ap (λ l. k ∷ l) h
push_later false true k ys zs i j e h = h ∙ ap (λ x. zs ++ x ∷ []) e
push_later false false k ys zs i j e h = h

-- one record more at the end
indexes_push : (k : ℕ) (phase : Phase) (n : ℕ) (os : List (Option Solved)) (o : Option Solved)
    → indexes_from k phase n (os ++ o ∷ []) ≡ (if is_level n (level_in phase o) then indexes_from k phase n os ++ (k + length os) ∷ [] else indexes_from k
    phase n os)
indexes_push k phase n [] o = push_first (is_level n (level_in phase o)) k
indexes_push k phase n (x ∷ xs) o =
    push_later (is_level n (level_in phase x)) (is_level n (level_in phase o)) k (indexes_from (suc k) phase n (xs ++ o ∷ []))
    (indexes_from (suc k) phase n xs) (suc k + length xs) (k + length (x ∷ xs)) (omega arith) (indexes_push (suc k) phase n xs o)

-- the indexes with one record more
indexes_more : (phase : Phase) (n i : ℕ) (os : List (Option Solved)) (d : Option Solved) → i < length os
    → indexes_at phase n (take (i + 1) os) ≡ (if is_level n (level_in phase (get_or os i d)) then indexes_at phase n (take i os) ++ i ∷ [] else indexes_at
    phase n (take i os))
indexes_more phase n i os d l =
    let e : 0 + length (take i os) ≡ i = rw length-take (omega arith) in
    ap (indexes_at phase n) (take_more os i d l) ∙ indexes_push 0 phase n (take i os) (get_or os i d) ∙ ap
    (λ j. if is_level n (level_in phase (get_or os i d)) then indexes_at phase n (take i os) ++ j ∷ [] else indexes_at phase n (take i os)) e

-- a run that has the indexes of the first records has those with one record more
pub indexes_with : (phase : Phase) (n i : ℕ) (os : List (Option Solved)) (o : Option Solved) (was : List ℕ) → i < length os → o ≡ record_at os i → was ≡
    indexes_at phase n (take i os)
    → (if is_level n (level_in phase o) then was ++ i ∷ [] else was) ≡ indexes_at phase n (take (i + 1) os)
indexes_with phase n i os o was l known h =
    ap (λ (ys : List ℕ). if is_level n (level_in phase o) then ys ++ i ∷ [] else ys) h
    ∙ ap (λ (x : Option Solved). if is_level n (level_in phase x) then indexes_at phase n (take i os) ++ i ∷ [] else indexes_at phase n (take i os))
    (known ∙ record_read os i l)
    ∙ sym (indexes_more phase n i os None l)

-- no run has an index before the first
pub empty_runs : (win_lose ties : Vec (Vec ℕ Global) Global) → win_lose.items ≡ [] → ties.items ≡ []
    → (phase : Phase) (n : ℕ) → run_in (record { win_lose = win_lose; ties = ties }) phase n ≡ []
empty_runs win_lose ties w t WinLose n = ap (λ (runs : List (Vec ℕ Global)). slice_index_or (map (λ run. run.items) runs) n []) w
empty_runs win_lose ties w t Ties n = ap (λ (runs : List (Vec ℕ Global)). slice_index_or (map (λ run. run.items) runs) n []) t

-- a run with one index more
pub run_push : (runs new_runs : Vec (Vec ℕ Global) Global) (i : ℕ) (old new : Vec ℕ Global) (x : ℕ) → i < length runs.items → old ≡ get_or runs.items i old
    → new.items ≡ old.items ++ x ∷ [] → new_runs.items ≡ set runs.items i new
    → (n : ℕ) → run_at new_runs n ≡ (if i == n then run_at runs n ++ x ∷ [] else run_at runs n)
run_push runs new_runs i old new x l e h w n =
    let f = λ (run : Vec ℕ Global). run.items in
    let s : map f new_runs.items ≡ set (map f runs.items) i new.items = ap (map f) w ∙ map-set f runs.items i new in
    let m : i < length (map f runs.items) = rw length-map l in
    elim (cases_eq i n) [
      | inl q ↦ (
          let same : get_or (map f new_runs.items) i [] ≡ new.items = ap (λ ys. get_or ys i []) s ∙ get_or-set_same (map f runs.items) i new.items [] m in
          let was : get_or (map f runs.items) i [] ≡ old.items = get_or-map f runs.items i old [] l ∙ ap f (sym e) in
          subst (λ k. get_or (map f new_runs.items) k [] ≡ (if i == k then get_or (map f runs.items) k [] ++ x ∷ [] else get_or (map f runs.items) k [])) q
          (rw (eq-eqb i i refl) (same ∙ h ∙ ap (λ ys. ys ++ x ∷ []) (sym was))))
      | inr q ↦ rw (ne_eqb i n q) (ap (λ ys. get_or ys n []) s ∙ get_or-set_other (map f runs.items) i n new.items [] (λ z. q (sym z)))
    ]
