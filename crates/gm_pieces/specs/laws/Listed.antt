-- Lists of numbers that ascend, and room in a list into which indexes are put one at a time.
use Rattle.std.specs.Prelude.{◌≡◌, ◌↔◌, ◌+◌, ◌<◌, ◌≤◌, ◌∷◌}
use Rattle.std.proofs.Common.{ℕ, zero, suc, Bool, List, [], map, length, Option, Some, refl, sym, ap, ◌∙◌, inl, inr, subst, arith}
use Rattle.std.specs.List.{Contains, filter, filter_map, range_with_len}
use Rattle.std.proofs.lemmas.Bool.{cond_both}
use Rattle.std.proofs.lemmas.List.{length-map}
use Rattle.gm_game.specs.Rules.{IsAscending}
use Rattle.gm_game.specs.Ascending.{put_all}
use Rattle.gm_board.specs.laws.Filters.{range_in, one_more_map, room}
use Rattle.gm_board.specs.laws.Lists.{contains_head, filter_from}
use Rattle.gm_game.proofs.Lists.{contains_none, contains_first, contains_later, contains_cases}
use Rattle.gm_game.proofs.Putting.{put_all_ascending, put_all_few, put_all_from, put_all_later}

-- ---- ascending lists
pub ascending_cons : (x : ℕ) (xs : List ℕ) → ((y : ℕ) → Contains xs y → x < y) → IsAscending xs → IsAscending (x ∷ xs)
ascending_cons x [] h a = tt
ascending_cons x (y ∷ xs) h a = (h y (contains_head y xs), a)

pub ascending_above : (x : ℕ) (xs : List ℕ) → IsAscending (x ∷ xs) → (y : ℕ) → Contains xs y → x < y
ascending_above x [] up y h = absurd (contains_none y h)
ascending_above x (z ∷ zs) up y h = elim (contains_cases z y zs h) [
  | inl e ↦ (let l = up.0 in omega (arith, l, e))
  | inr t ↦ (let l = up.0 in let k = ascending_above z zs up.1 y t in omega arith)
]

ascending_rest : (x : ℕ) (xs : List ℕ) → IsAscending (x ∷ xs) → IsAscending xs
ascending_rest x [] up = tt
ascending_rest x (y ∷ ys) up = up.1

same_first : (x y : ℕ) (xs ys : List ℕ) → IsAscending (x ∷ xs) → IsAscending (y ∷ ys) → Contains (y ∷ ys) x → Contains (x ∷ xs) y → x ≡ y
same_first x y xs ys a b i j = elim (contains_cases y x ys i) [
  | inl e ↦ sym e
  | inr k ↦ elim (contains_cases x y xs j) [
    | inl e ↦ e
    | inr l ↦ absurd (let u = ascending_above x xs a y l in let v = ascending_above y ys b x k in omega (arith, u, v))
  ]
]

rest_in : (x y : ℕ) (xs ys : List ℕ) → x ≡ y → IsAscending (x ∷ xs) → ((m : ℕ) → Contains (x ∷ xs) m → Contains (y ∷ ys) m) → (m : ℕ) → Contains xs m → Contains ys m
rest_in x y xs ys e a f m i = elim (contains_cases y m ys (f m (contains_later x m xs i))) [
  | inl s ↦ absurd (let l = ascending_above x xs a m i in omega (arith, l, s, e))
  | inr j ↦ j
]

-- an ascending list is determined by its elements
pub ascending_once : (xs ys : List ℕ) → IsAscending xs → IsAscending ys → ((m : ℕ) → Contains xs m ↔ Contains ys m) → xs ≡ ys
ascending_once [] [] a b f = refl
ascending_once [] (y ∷ ys) a b f = absurd (contains_none y ((f y).1 (contains_first y ys)))
ascending_once (x ∷ xs) [] a b f = absurd (contains_none x ((f x).0 (contains_first x xs)))
ascending_once (x ∷ xs) (y ∷ ys) a b f =
    let e = same_first x y xs ys a b ((f x).0 (contains_first x xs)) ((f y).1 (contains_first y ys)) in
    let s = ascending_once xs ys (ascending_rest x xs a) (ascending_rest y ys b)
    (λ m. (rest_in x y xs ys e a (λ z. (f z).0) m, rest_in y x ys xs (sym e) b (λ z. (f z).1) m)) in
    ap (λ (z : ℕ). z ∷ xs) e ∙ ap (λ (zs : List ℕ). y ∷ zs) s

has_part : (xs ys : List ℕ) → ((m : ℕ) → Contains xs m → Contains ys m) → (m : ℕ) → Contains (put_all [] xs) m → Contains (put_all [] ys) m
has_part xs ys f m c = elim (put_all_from [] xs m c) [
  | inl n ↦ absurd (contains_none m n)
  | inr i ↦ put_all_later [] ys m (f m i)
]

-- numbers that are put into a list give it by what they are
pub put_all_same : (xs ys : List ℕ) → ((m : ℕ) → Contains xs m → Contains ys m) → ((m : ℕ) → Contains ys m → Contains xs m) → put_all [] xs ≡ put_all [] ys
put_all_same xs ys f h =
    ascending_once (put_all [] xs) (put_all [] ys) (put_all_ascending [] xs tt) (put_all_ascending [] ys tt) (λ m. (has_part xs ys f m, has_part ys xs h m))

-- the numbers of a range that pass a test ascend
pub filter_ascending : (p : ℕ → Bool) (a n : ℕ) → IsAscending (filter p (range_with_len a n))
filter_ascending p a zero = tt
filter_ascending p a (suc n) =
    let rest = filter p (range_with_len (a + 1) n) in
    let up = filter_ascending p (a + 1) n in
    cond_both (p a) (a ∷ rest) rest IsAscending
    (λ e. ascending_cons a rest (λ y c. let r = range_in (a + 1) n y (filter_from p (range_with_len (a + 1) n) y c).0 in omega (arith, r.0)) up)
    (λ e. up)

-- there is room for each index that is put into a list, where at most 128 are put
pub put_room : {B : Type 0} (h : ℕ → Option B) (f : B → ℕ) (n m : ℕ) (a : B) (xs : List ℕ) → length (filter_map h (range_with_len 0 n)) ≤ 128 → m < n → h m
    ≡ Some a
    → xs ≡ put_all [] (map f (filter_map h (range_with_len 0 m))) → length xs < 128
put_room h f n m a xs all l e is =
    let last : length (filter_map h (m ∷ [])) ≡ 1 = rw e refl in
    let put = map f (filter_map h (range_with_len 0 m)) in
    let few = put_all_few [] put in
    let long = length-map (filter_map h (range_with_len 0 m)) f in
    let less = room (λ k. length (filter_map h (range_with_len 0 k))) (λ k. let s = one_more_map h k in omega (arith, s)) n m all l
    (let s = one_more_map h m in omega (arith, s, last)) in
    subst (λ (ys : List ℕ). length ys < 128) (sym is) (omega (arith, few, long, less))
