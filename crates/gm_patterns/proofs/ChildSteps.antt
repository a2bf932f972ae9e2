-- Numbers that the elements of a list give, put into an ascending list one at a time.
use Rattle.std.specs.Prelude.{◌≡◌, ◌+◌, ◌<◌, ◌≤◌, ◌∷◌, ◌++◌, drop}
use Rattle.gm_pieces.specs.Common.{ℕ, List, [], length, get_or, take, Option, None, Some, refl, sym, ap, ◌∙◌, arith, cond, filter_map, put, put_all, take_more}
use Rattle.std.proofs.lemmas.Bool.{cond-true, le-leb}
use Rattle.std.proofs.lemmas.List.{take-append-drop}
use Rattle.std.proofs.lemmas.List.Elements.{filter_map-append}
use Rattle.std.proofs.lemmas.List.Sums.{fold-append}
use Rattle.gm_patterns.specs.PatternGames.{PatternGame, more, fewer, steps_of, child_by, child_tiers}
use Rattle.gm_patterns.specs.PatternTables.{IsPatternGame}
use Rattle.gm_patterns.specs.laws.StepFacts.{few_children}

-- a number put into a list makes it no shorter
put_longer : (x : ℕ) (ys : List ℕ) → length ys ≤ length (put x ys)
put_longer x [] = omega arith
put_longer x (y ∷ ys) = grind (arith, put_longer x ys)

put_all_longer : (ys xs : List ℕ) → length ys ≤ length (put_all ys xs)
put_all_longer ys [] = omega arith
put_all_longer ys (x ∷ xs) = let a = put_longer x ys in let b = put_all_longer (put x ys) xs in omega (arith, a, b)

put_all_append : (zs xs ys : List ℕ) → put_all zs (xs ++ ys) ≡ put_all (put_all zs xs) ys
put_all_append zs xs ys = fold-append (λ (zs : List ℕ) (x : ℕ). put x zs) zs xs ys

module _ {X : Type 0} (h : X → Option ℕ) (ys : List ℕ) (xs : List X) where
  -- the numbers of the first k elements, put into the list ys
  abbrev pub puts : ℕ → List ℕ
  puts k = put_all ys (filter_map h (take k xs))

  puts_more : (k : ℕ) (d : X) → k < length xs → puts (k + 1) ≡ put_all (puts k) (filter_map h (get_or xs k d ∷ []))
  puts_more k d l =
      ap (λ (zs : List X). put_all ys (filter_map h zs)) (take_more xs k d l)
      ∙ ap (put_all ys) (filter_map-append h (take k xs) (get_or xs k d ∷ []))
      ∙ put_all_append ys (filter_map h (take k xs)) (filter_map h (get_or xs k d ∷ []))

  -- one more number
  pub puts_some : (k u : ℕ) (d : X) → k < length xs → h (get_or xs k d) ≡ Some u → puts (k + 1) ≡ put u (puts k)
  puts_some k u d l e = puts_more k d l ∙ rw e refl

  -- an element that gives no number
  pub puts_none : (k : ℕ) (d : X) → k < length xs → h (get_or xs k d) ≡ None → puts (k + 1) ≡ puts k
  puts_none k d l e = puts_more k d l ∙ rw e refl

  -- no more numbers than of all elements
  pub puts_few : (k : ℕ) → length (puts k) ≤ length (put_all ys (filter_map h xs))
  puts_few k =
      let e : put_all ys (filter_map h xs) ≡ put_all (puts k) (filter_map h (drop k xs)) =
      ap (λ (zs : List X). put_all ys (filter_map h zs)) (sym (take-append-drop k xs))
      ∙ ap (put_all ys) (filter_map-append h (take k xs) (drop k xs))
      ∙ put_all_append ys (filter_map h (take k xs)) (filter_map h (drop k xs)) in
      let z = ap (λ (zs : List ℕ). length zs) e in
      let l = put_all_longer (puts k) (filter_map h (drop k xs)) in
      omega (arith, z, l)

-- ---- child tiers
-- a tier of more pieces than cells has no child tier
pub no_children : (n : ℕ) (g : PatternGame) (t : ℕ) → n < more g t + fewer g t → child_tiers n g t ≡ []
unfolding child_tiers steps_of
no_children n g t l = grind arith

module _ (n : ℕ) (g : PatternGame) (h : IsPatternGame n g) (t : ℕ) (order : fewer g t ≤ more g t) where
  -- the numbers that the steps give from either numbers of pieces
  abbrev pub up : List ℕ
  up = filter_map (child_by n g (more g t) (fewer g t)) (steps_of n g t)

  abbrev pub down : List ℕ
  down = filter_map (child_by n g (fewer g t) (more g t)) (steps_of n g t)

  -- the child tiers are the numbers of the two lists, put one after the other
  pub children_are : child_tiers n g t ≡ put_all (put_all [] up) down
  unfolding child_tiers
  children_are = cond-true _ _ _ (le-leb (fewer g t) (more g t) order) ∙ put_all_append [] up down

  -- there is room for them
  pub rest_room : length (put_all (put_all [] up) down) < 16
  rest_room = let few = few_children n g h t in let z = ap (λ (xs : List ℕ). length xs) children_are in omega (arith, few, z)

  pub first_room : length (put_all [] up) < 16
  first_room = let l = put_all_longer (put_all [] up) down in let k = rest_room in omega (arith, l, k)
