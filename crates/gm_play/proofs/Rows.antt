-- The rows of moves and of lines of play.
use Rattle.gm_play.proofs.Lower.{◌≡◌, ℕ, ◌+◌, ◌-◌, ◌<◌, ◌≤◌, true, List, [], ◌∷◌, ◌++◌, length, map, take, drop, get_or, Some, refl, sym, ap, ap₂, subst, ◌∙◌, arith, All, Contains, flat_map, take_more, take_all, drop_more, Position, Solved, Value, Draw, IsGame, solved, Rules, HasValue, IsTrueValue, map_from, MoveValue, AreBest, wanted_from, IsBestMove, worth_from, IsMoveOf, rows_from}
use Rattle.std.proofs.lemmas.Grind.{flat_map-append}
use Rattle.std.proofs.lemmas.List.Sorted.{Contains-permutation, IsPermutation-sym}
use Rattle.gm_play.specs.MoveValues.{AreMoveValues}
use Rattle.gm_play.specs.PlayTexts.{after_best, AreLineRows}
use Rattle.std.proofs.lemmas.List.Elements.{All-contains_itself}
use Rattle.std.proofs.lemmas.List.{append-nil}
use Rattle.gm_play.proofs.Lowering.{step_value}

-- moves with their values have legal results
pub are_moves : (r : Rules) → IsGame r → (p : Position) → r.is_legal p ≡ true → (list : List MoveValue) → AreMoveValues r p list → All (IsMoveOf r p) list
are_moves r g p legal list h k d inside =
    let x = get_or list k d in
    let number : MoveValue → ℕ = λ (y : MoveValue). y.number in
    let there : Contains list x = All-contains_itself list k d inside in
    let has : Contains (r.moves p) x.number = Contains-permutation (map number list) (r.moves p) x.number
    (IsPermutation-sym (r.moves p) (map number list) h.listed) (map_from number list x there) in
    (has, subst (λ (q : Position). r.is_legal q ≡ true) (sym (h.each k d inside).position) (g.play_legal p x.number legal has))

-- the value after the best move
lowered : (v : Value) (k n : ℕ) → (v ≡ Draw → n ≡ 0) → worth_from (wanted_from v) k ≡ solved v n → k ≡ n - 1
lowered Draw k n d e = let f : k ≡ n = ap (λ s. s.remoteness) e in let z : n ≡ 0 = d refl in omega arith
lowered v k n d e = let f : k + 1 ≡ n = ap (λ s. s.remoteness) e in omega arith

pub after_true : (r : Rules) (p : Position) (m : ℕ) (s : Solved) → IsBestMove r p (Some m) → IsTrueValue r p s → IsTrueValue r (r.play p m) (after_best s)
after_true r p m s b h =
    let (k, here, e) = step_value r p m s.value s.remoteness b h in
    let drawn : s.value ≡ Draw → s.remoteness ≡ 0 = λ d. (subst (λ (w : Value). HasValue r p w s.remoteness) d h).0 in
    subst (λ (n : ℕ). HasValue r (r.play p m) (wanted_from s.value) n) (lowered s.value k s.remoteness drawn e) here

-- the next of some best moves is a move, and the following ones are best after it
pub best_step : (r : Rules) (p : Position) (ms : List ℕ) (k : ℕ) → k < length ms → AreBest r p (drop k ms) → Contains (r.moves p) (get_or ms k 0) × AreBest
    r (r.play p (get_or ms k 0)) (drop (k + 1) ms)
best_step r p ms k less h = let best : AreBest r p (get_or ms k 0 ∷ drop (k + 1) ms) = subst (AreBest r p) (drop_more ms k 0 less) h in
    (best.0.1.best.there, best.1)

module _ (r : Rules) (shown : Position → List ℕ) (move_shown : Position → ℕ → List ℕ) where
  pub rows_true : (ms : List ℕ) (p : Position) (s : Solved) → AreBest r p ms → IsTrueValue r p s → AreLineRows r shown move_shown p ms
      (rows_from r shown move_shown p s ms)
  rows_true [] p s best h = refl
  rows_true (m ∷ ms) p s best h =
      let next = after_true r p m s best.0 h in
      (after_best s, rows_from r shown move_shown (r.play p m) (after_best s) ms, next, rows_true ms (r.play p m) (after_best s) best.1 next, refl)

-- the text of some things, and of one more
pub flat_more : {X : Type 0} (f : X → List ℕ) (xs : List X) (i : ℕ) (d : X) (old new piece : List ℕ) → i < length xs → old ≡ flat_map f (take i xs) → new ≡
    old ++ piece → piece ≡ f (get_or xs i d)
    → new ≡ flat_map f (take (i + 1) xs)
flat_more f xs i d old new piece less o n p =
    let x = get_or xs i d in
    n ∙ ap₂ (λ (a b : List ℕ). a ++ b) o p ∙ ap (λ (a : List ℕ). flat_map f (take i xs) ++ a) (sym (append-nil (f x))) ∙ sym
    (flat_map-append f (take i xs) (x ∷ []))
    ∙ ap (flat_map f) (sym (take_more xs i d less))

pub flat_all : {X : Type 0} (f : X → List ℕ) (xs : List X) (i : ℕ) (all : List ℕ) → length xs ≤ i → all ≡ flat_map f (take i xs) → all ≡ flat_map f xs
flat_all f xs i all less e = e ∙ ap (flat_map f) (take_all i xs less)
