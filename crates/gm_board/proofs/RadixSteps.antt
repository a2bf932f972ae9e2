-- The steps of making a number of digits, and of taking it apart again.
use Rattle.gm_board.proofs.Lower.{◌≡◌, ℕ, zero, suc, ◌+◌, ◌/◌, ◌%◌, ◌^◌, ◌<◌, ◌≤◌, List, [], ◌∷◌, ◌++◌, length, get_or, take, drop, sym, ap, ap₂, ◌∙◌, subst, arith, inl, inr, cases_eq}
use Rattle.std.proofs.Common.{set, mod-lt, mul-le-mul_left, length-set, length-take, get_or-take, get_or-set_same, get_or-set_other, div-lt_iff_lt-mul, ◌*◌}
use Rattle.std.proofs.lemmas.Nat.{div-add-mod', mul-mod_first}
use Rattle.std.proofs.lemmas.List.{take_more, take_all, drop_more, drop-set}
use Rattle.gm_board.specs.inner.Digits.{radix_size, digits_number, AreBelow, number_digits}
use Rattle.gm_board.specs.laws.Digits.{number_below, digits_back}

size_push : (rs : List ℕ) (r : ℕ) → radix_size (rs ++ r ∷ []) ≡ radix_size rs * r
size_push [] r = omega arith
size_push (q ∷ rs) r = let e = size_push rs r in ap (λ (s : ℕ). q * s) e ∙ (let z : q * (radix_size rs * r) ≡ q * radix_size rs * r = omega arith in z)

number_push : (rs ds : List ℕ) (r d : ℕ) → length ds ≡ length rs → digits_number (rs ++ r ∷ []) (ds ++ d ∷ []) ≡ digits_number rs ds * r + d
number_push [] [] r d e = omega arith
number_push [] (c ∷ ds) r d e = absurd (omega arith)
number_push (q ∷ rs) [] r d e = absurd (omega arith)
number_push (q ∷ rs) (c ∷ ds) r d e =
    ap₂ (λ (s n : ℕ). c * s + n) (size_push rs r) (number_push rs ds r d (omega arith))
    ∙ (let z : c * (radix_size rs * r) + (digits_number rs ds * r + d) ≡ (c * radix_size rs + digits_number rs ds) * r + d = omega arith in z)

-- one more digit
pub number_more : (rs ds : List ℕ) (k : ℕ) → length ds ≡ length rs → k < length rs
    → digits_number (take (k + 1) rs) (take (k + 1) ds) ≡ digits_number (take k rs) (take k ds) * get_or rs k 0 + get_or ds k 0
number_more rs ds k e l =
    ap₂ digits_number (take_more rs k 0 l) (take_more ds k 0 (omega (arith, e)))
    ∙ number_push (take k rs) (take k ds) (get_or rs k 0) (get_or ds k 0) (let z : length (take k ds) ≡ length (take k rs) = omega
    (arith, length-take k ds, length-take k rs) in z)

-- a product that wraps on the way
pub size_more : (rs : List ℕ) (k j size : ℕ) → j + 1 ≡ k → k ≤ length rs → size ≡ radix_size (drop k rs) % 2 ^ 64 → size * get_or rs j 0 % 2 ^ 64 ≡
    radix_size (drop j rs) % 2 ^ 64
size_more rs k j size q l h =
    let r = get_or rs j 0 in
    ap (λ (v : ℕ). v * r % 2 ^ 64) h
    ∙ mul-mod_first (radix_size (drop k rs)) r (2 ^ 64)
    ∙ ap (λ (v : ℕ). v % 2 ^ 64) (
    (let z : radix_size (drop k rs) * r ≡ r * radix_size (drop k rs) = omega arith in z)
    ∙ ap (λ (i : ℕ). r * radix_size (drop i rs)) (sym q)
    ∙ ap radix_size (sym (drop_more rs j 0 (omega arith))))

-- positive radices
one_digit : (q s k : ℕ) → 0 < q → s ≤ k → s ≤ q * k
one_digit zero s k p l = absurd (omega arith)
one_digit (suc q) s k p l = omega arith

size_take : (rs : List ℕ) (k : ℕ) → ((i : ℕ) → i < length rs → 0 < get_or rs i 0) → radix_size (take k rs) ≤ radix_size rs
size_take rs zero h = positive rs h
  where
    positive : (rs : List ℕ) → ((i : ℕ) → i < length rs → 0 < get_or rs i 0) → 1 ≤ radix_size rs
    positive [] h = omega arith
    positive (q ∷ rs) h = one_digit q 1 (radix_size rs) (h 0 (omega arith)) (positive rs (λ i l. h (suc i) (omega arith)))
size_take [] (suc k) h = omega arith
size_take (q ∷ rs) (suc k) h = mul-le-mul_left q (size_take rs k (λ i l. h (suc i) (omega arith)))

-- the number of the first k digits is below the number of all
prefix_below : (rs ds : List ℕ) (k : ℕ) → length ds ≡ length rs → AreBelow rs ds → k ≤ length rs → digits_number (take k rs) (take k ds) < radix_size rs
prefix_below rs ds k e h l =
    let a = number_below (take k rs) (take k ds) (let z : length (take k ds) ≡ length (take k rs) = omega (arith, length-take k ds, length-take k rs) in z)
    (λ i m. let j : i < k = omega (arith, length-take k rs) in
    let x = get_or-take k rs i 0 j in
    let y = get_or-take k ds i 0 j in
    let b = h i (omega arith) in omega (arith, x, y, b)) in
    let b = size_take rs k (λ i m. let c = h i m in omega (arith, c)) in
    omega (arith, a, b)

-- one more digit makes a number that fits
pub prefix_fits : (rs ds : List ℕ) (k number : ℕ) → number ≡ digits_number (take k rs) (take k ds) → length ds ≡ length rs → k < length rs → AreBelow rs ds
    → radix_size rs < 2 ^ 64 → number * get_or rs k 0 + get_or ds k 0 < 2 ^ 64
prefix_fits rs ds k number h e l b s =
    let m = ap (λ (v : ℕ). v * get_or rs k 0 + get_or ds k 0) h in
    omega (arith, m, number_more rs ds k e l, prefix_below rs ds (k + 1) e b (omega arith))

-- all digits
pub number_all : (rs ds : List ℕ) (k : ℕ) → length rs ≤ k → length ds ≡ length rs → digits_number (take k rs) (take k ds) ≡ digits_number rs ds
number_all rs ds k l e = ap₂ digits_number (take_all k rs l) (take_all k ds (omega (arith, e)))

-- ---- taking a number apart
-- the digits from k on are made, and `rest` is the number of the others
pub record IsDecoded (rs : List ℕ) (number k rest : ℕ) (ds : List ℕ) : Type 0 where
  pub is_length : length ds ≡ length rs
  pub below : rest < radix_size (take k rs)
  pub digits : (i : ℕ) → k ≤ i → i < length rs → get_or ds i 0 < get_or rs i 0
  pub is_number : number ≡ rest * radix_size (drop k rs) + digits_number (drop k rs) (drop k ds)

-- the radix of the next digit is not 0
pub radix_positive : (rs : List ℕ) (number k j rest : ℕ) (ds : List ℕ) → j + 1 ≡ k → k ≤ length rs → IsDecoded rs number k rest ds → 0 < get_or rs j 0
radix_positive rs number k j rest ds q l h =
    positive (get_or rs j 0) (radix_size (take j rs)) rest
    (subst (λ (s : ℕ). rest < s) (ap (λ (i : ℕ). radix_size (take i rs)) (sym q) ∙ ap radix_size (take_more rs j 0 (omega arith)) ∙ size_push (take j rs)
    (get_or rs j 0)) h.below)
  where
    positive : (r s i : ℕ) → i < s * r → 0 < r
    positive zero s i m = absurd (omega arith)
    positive (suc r) s i m = omega arith

-- one more digit
pub decoded_more : (rs : List ℕ) (number k j rest : ℕ) (ds : List ℕ) → j + 1 ≡ k → k ≤ length rs → IsDecoded rs number k rest ds
    → IsDecoded rs number j (rest / get_or rs j 0) (set ds j (rest % get_or rs j 0))
decoded_more rs number k j rest ds q l h =
    let r = get_or rs j 0 in
    let p : 0 < r = radix_positive rs number k j rest ds q l h in
    let s : radix_size (take k rs) ≡ radix_size (take j rs) * r = ap (λ (i : ℕ). radix_size (take i rs)) (sym q) ∙ ap radix_size
    (take_more rs j 0 (omega arith)) ∙ size_push (take j rs) r in
    let dr : drop j rs ≡ r ∷ drop k rs = drop_more rs j 0 (omega arith) ∙ ap (λ (i : ℕ). r ∷ drop i rs) q in
    let dd : drop j (set ds j (rest % r)) ≡ (rest % r) ∷ drop k ds = drop-set ds j (rest % r) (omega (arith, h.is_length)) ∙ ap
    (λ (i : ℕ). (rest % r) ∷ drop i ds) q in
    let split = div-add-mod' rest r in
    record {
      is_length = length-set ds j (rest % r) ∙ h.is_length;
      below = (div-lt_iff_lt-mul p).1 (subst (λ (v : ℕ). rest < v) s h.below);
      digits = λ i a b. elim (cases_eq i j) [
        | inl e ↦ subst (λ (v : ℕ). get_or (set ds j (rest % r)) v 0 < get_or rs v 0) (sym e)
            (let w = get_or-set_same ds j (rest % r) 0 (omega (arith, h.is_length)) in let m : rest % r < r = mod-lt rest p in omega (arith, w, m))
        | inr n ↦ let w = get_or-set_other ds j i (rest % r) 0 n in let m = h.digits i (omega arith) b in omega (arith, w, m)
      ];
      is_number =
          h.is_number
          ∙ ap (λ (v : ℕ). v * radix_size (drop k rs) + digits_number (drop k rs) (drop k ds)) (sym split)
          ∙ (let z : (rest / r * r + rest % r) * radix_size (drop k rs) + digits_number (drop k rs) (drop k ds)
          ≡ rest / r * (r * radix_size (drop k rs)) + (rest % r * radix_size (drop k rs) + digits_number (drop k rs) (drop k ds)) = omega arith in z)
          ∙ sym (ap₂ (λ (xs ys : List ℕ). rest / r * radix_size xs + digits_number xs ys) dr dd);
    }

-- all digits are made
pub record AreDigitsOf (rs : List ℕ) (number : ℕ) (ds : List ℕ) : Type 0 where
  pub value : ds ≡ number_digits rs number
  pub below : AreBelow rs ds
  pub back : digits_number rs ds ≡ number

-- each digit is made
pub decoded_all : (rs : List ℕ) (number k rest : ℕ) (ds : List ℕ) → k ≡ 0 → IsDecoded rs number k rest ds → AreDigitsOf rs number ds
decoded_all rs number k rest ds e h =
    let l : rest < 1 = subst (λ (i : ℕ). rest < radix_size (take i rs)) e h.below in
    let n : number ≡ rest * radix_size rs + digits_number rs ds =
    h.is_number ∙ ap (λ (i : ℕ). rest * radix_size (drop i rs) + digits_number (drop i rs) (drop i ds)) e in
    let z : rest * radix_size rs ≡ 0 = ap (λ (v : ℕ). v * radix_size rs) (let q : rest ≡ 0 = omega arith in q) ∙
    (let q : 0 * radix_size rs ≡ 0 = omega arith in q) in
    let b : digits_number rs ds ≡ number = omega (arith, n, z) in
    let below : AreBelow rs ds = λ i m. h.digits i (omega (arith, e)) m in
    record { value = sym (ap (number_digits rs) (sym b) ∙ digits_back rs ds h.is_length below); below = below; back = b }
