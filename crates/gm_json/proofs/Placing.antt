-- The words of a line that names a tier and an index.
use Rattle.gm_json.proofs.Lower.{◌≡◌, ◌<◌, ◌==◌, ◌+◌, ◌++◌, ◌∷◌, [], List, ℕ, Option, Some, None, inl, inr, length, take, drop, get_or, true, false, refl, sym, ap, ap₂, subst, ◌∙◌, arith, length-append, Position, at}
use Rattle.std.proofs.Common.{suc, ◌%◌, ◌^◌, ◌≤◌, ◌-◌}
use Rattle.std.specs.Fmt.{decimal}
use Rattle.gm_json.specs.Places.{IsPlaceLine}
use Rattle.std.proofs.Math.ListN.{get_or-append}
use Rattle.std.proofs.Math.Seq.{drop-append-add, drop-cons, get_or-append_seam, take-append_seam}
use Rattle.std.proofs.lemmas.Bool.{cases_Bool, cases_lt, eqb-true, lt-ltb}
use Rattle.std.proofs.lemmas.Fmt.{decimal_by_steps}
use Rattle.std.proofs.lemmas.List.{take-append-drop, take_rest}
use Rattle.std.proofs.lemmas.List.Quantifiers.{position-Some}
use Rattle.std.proofs.lemmas.List.Sums.{position_or_len_is}
use Rattle.std.specs.List.{position}

-- no byte is a space
abbrev IsSolid : List ℕ → Type 0
IsSolid ds = (k : ℕ) → k < length ds → get_or ds k 0 ≡ 32 → ⊥

solid_one : (n : ℕ) → n < 10 → IsSolid ((48 + n) ∷ [])
solid_one n h k less e =
    let zero : k ≡ 0 = omega (less, arith) in
    let first : 48 + n ≡ 32 = subst (λ (i : ℕ). get_or ((48 + n) ∷ []) i 0 ≡ 32) zero e in
    omega (first, arith)

solid_more : (n : ℕ) (ds : List ℕ) → 10 ≤ n → IsSolid ds → IsSolid (ds ++ ((48 + n % 10) ∷ []))
solid_more n ds h solid k less e = elim (cases_lt k (length ds)) [
  | inl before ↦ solid k before (sym (get_or-append ds ((48 + n % 10) ∷ []) 0 k before) ∙ e)
  | inr after ↦ (
      let last : k ≡ length ds = omega (after, less, length-append ds ((48 + n % 10) ∷ []), arith) in
      let digit : 48 + n % 10 ≡ 32 = sym (get_or-append_seam ds (48 + n % 10) [] 0)
      ∙ subst (λ (i : ℕ). get_or (ds ++ ((48 + n % 10) ∷ [])) i 0 ≡ 32) last e in
      omega (digit, arith))
]

solid : (n : ℕ) → n < 2 ^ 64 → IsSolid (decimal n)
solid = decimal_by_steps (λ n ds. IsSolid ds) solid_one solid_more

abbrev space_in : List ℕ → Option ℕ
space_in bs = position (λ b. b == 32) bs

-- a text is what is before its first space, the space, and what is after it
around_space : (bs : List ℕ) (k : ℕ) → space_in bs ≡ Some k → bs ≡ take k bs ++ (32 ∷ drop (k + 1) bs)
around_space bs k found =
    let at = position-Some (λ b. b == 32) bs k 0 found in
    sym (take-append-drop k bs) ∙ ap (λ (l : List ℕ). take k bs ++ l) (drop-cons bs k 0 at.0 ∙ rest bs k (eqb-true _ 32 at.1))
  where
    rest : (xs : List ℕ) (i : ℕ) → get_or xs i 0 ≡ 32 → get_or xs i 0 ∷ drop (suc i) xs ≡ 32 ∷ drop (i + 1) xs
    rest xs i e = (let s : i + 1 ≡ suc i = omega arith in rw e (rw s refl))

-- what is after the byte with this index, as a slice to the end
abbrev after : ℕ → List ℕ → List ℕ
after k bs = take (length bs - (k + 1)) (drop (k + 1) bs)

-- the first space is right after the digits of a number
space_after : (ds rest : List ℕ) → IsSolid ds → space_in (ds ++ (32 ∷ rest)) ≡ Some (length ds)
space_after ds rest none =
    let bs = ds ++ (32 ∷ rest) in
    let long : length ds < length bs = omega (length-append ds (32 ∷ rest), arith) in
    let here : (get_or bs (length ds) 0 == 32) ≡ true = rw (get_or-append_seam ds 32 rest 0) refl in
    let is = position_or_len_is (λ b. b == 32) bs (length ds) 0 (omega (long, arith)) before (λ _. here) in
    rw (is, lt-ltb _ _ long) refl
  where
    before : (k : ℕ) → k < length ds → (get_or (ds ++ (32 ∷ rest)) k 0 == 32) ≡ false
    before k less = elim (cases_Bool (get_or (ds ++ (32 ∷ rest)) k 0 == 32)) [
      | inl e ↦ absurd (none k less (sym (get_or-append ds (32 ∷ rest) 0 k less) ∙ eqb-true _ 32 e))
      | inr e ↦ e
    ]

module _ (line words : List ℕ) (mark : line ≡ 64 ∷ words) where
  module _ (p : Position) (is : IsPlaceLine line p) where
    are : words ≡ decimal p.tier ++ (32 ∷ decimal p.index)
    are = (let e : 64 ∷ words ≡ 64 ∷ (decimal p.tier ++ (32 ∷ decimal p.index)) = sym mark ∙ is.is in cc)

    space : space_in words ≡ Some (length (decimal p.tier))
    space = ap space_in are ∙ space_after (decimal p.tier) (decimal p.index) (solid p.tier is.tier)

    -- a line that names a place has a space
    pub has_space : space_in words ≡ None → ⊥
    has_space none = let two : None ≡ Some (length (decimal p.tier)) = sym none ∙ space in cc

    -- its tier is before the first space, and its index after it
    pub words_of : (k : ℕ) → space_in words ≡ Some k → (decimal p.tier ≡ take k words) × (decimal p.index ≡ after k words)
    words_of k found =
        let ds = decimal p.tier in
        let rest = decimal p.index in
        let two : Some k ≡ Some (length ds) = sym found ∙ space in
        let end : k ≡ length ds = cc in (
          sym (take-append_seam ds (32 ∷ rest)) ∙ sym (ap (λ (l : List ℕ). take (length ds) l) are) ∙ ap (λ (i : ℕ). take i words) (sym end),
          sym (drop-append-add ds (32 ∷ rest) 1) ∙ sym (ap (λ (l : List ℕ). drop (length ds + 1) l) are) ∙ ap (λ (i : ℕ). drop (i + 1) words) (sym end)
              ∙ sym (take_rest words (k + 1)),
        )

  -- a line of these words names this place
  pub names : (k t i : ℕ) → space_in words ≡ Some k → (t < 2 ^ 64) × (decimal t ≡ take k words) → (i < 2 ^ 64) × (decimal i ≡ after k words)
      → IsPlaceLine line (at t i)
  names k t i found tier index = record {
    tier = tier.0;
    index = index.0;
    is = mark ∙ ap (λ (l : List ℕ). 64 ∷ l) (around_space words k found
        ∙ ap₂ (λ (a b : List ℕ). a ++ (32 ∷ b)) (sym tier.1) (sym (take_rest words (k + 1)) ∙ sym index.1));
  }
