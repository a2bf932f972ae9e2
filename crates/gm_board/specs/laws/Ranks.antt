-- What follows from the definitions of specs/Ranks.antt.
use Rattle.std.proofs.lemmas.Bool.Decides.{nat_tests}
use Rattle.std.proofs.lemmas.Bool.{cases_lt}
use Rattle.gm_board.specs.Binomials.{binomial}
use Rattle.gm_board.specs.Ranks.{members, rank, unrank}
use Rattle.std.proofs.Common.{◌≡◌, ℕ, zero, suc, ◌-◌, ◌<◌, ◌≤◌, Bool, true, false, ltb, List, [], ◌∷◌, length, refl, ap, ◌∙◌, lt-ltb, arith, inl, inr}
use Rattle.gm_board.specs.laws.Binomials.{binomial_zero, binomial_none, pascal, binomial_grows}

-- a rank is below the number of subsets
pub rank_below : (bs : List Bool) → rank bs < binomial (length bs) (members bs)
rank_below [] = omega (arith, binomial_zero 0)
rank_below (true ∷ bs) = omega (arith, rank_below bs, pascal (length bs) (members bs))
rank_below (false ∷ bs) = omega (arith, rank_below bs, binomial_grows (length bs) (members bs))

-- the subset with a rank is one of n cells
pub unrank_length : (n k r : ℕ) → length (unrank n k r) ≡ n
unrank_length zero k r = refl
unrank_length (suc n) zero r = ap suc (unrank_length n zero r)
unrank_length (suc n) (suc k) r = grind (arith, nat_tests, unrank_length n (suc k) r, unrank_length n k (r - binomial n (suc k)))

ltb-from_le : (a b : ℕ) → b ≤ a → ltb a b ≡ false
ltb-from_le a b l = grind (arith, nat_tests)

-- the step of unrank at a cell that is not a member
pub unrank_out : (n k r : ℕ) → r < binomial n k → unrank (suc n) k r ≡ false ∷ unrank n k r
unrank_out n zero r l = refl
unrank_out n (suc k) r l = rw (lt-ltb r (binomial n (suc k)) l) refl

-- the step of unrank at a cell that is a member
pub unrank_in : (n k r : ℕ) → binomial n (suc k) ≤ r → unrank (suc n) (suc k) r ≡ true ∷ unrank n k (r - binomial n (suc k))
unrank_in n k r l = rw (ltb-from_le r (binomial n (suc k)) l) refl

-- the subset with a rank has k members
pub unrank_members : (n k r : ℕ) → r < binomial n k → members (unrank n k r) ≡ k
unrank_members zero zero r l = refl
unrank_members zero (suc k) r l = absurd (omega (arith, binomial_none k))
unrank_members (suc n) zero r l = unrank_members n zero r (omega (arith, binomial_zero n, binomial_zero (suc n)))
unrank_members (suc n) (suc k) r l =
    elim (cases_lt r (binomial n (suc k))) [
      | inl h ↦ ap members (unrank_out n (suc k) r h) ∙ unrank_members n (suc k) r h
      | inr h ↦ ap members (unrank_in n k r h) ∙ ap suc (unrank_members n k (r - binomial n (suc k)) (omega (arith, pascal n k)))
    ]

-- the subset with a rank gives the rank back
pub rank_unrank : (n k r : ℕ) → r < binomial n k → rank (unrank n k r) ≡ r
rank_unrank zero zero r l = omega (arith, binomial_zero 0)
rank_unrank zero (suc k) r l = absurd (omega (arith, binomial_none k))
rank_unrank (suc n) zero r l =
    omega (arith, rank_unrank n zero r (omega (arith, binomial_zero n, binomial_zero (suc n))))
rank_unrank (suc n) (suc k) r l =
    elim (cases_lt r (binomial n (suc k))) [
      | inl h ↦ ap rank (unrank_out n (suc k) r h) ∙ rank_unrank n (suc k) r h
      | inr h ↦
          let s = r - binomial n (suc k) in
          let b : s < binomial n k = omega (arith, pascal n k) in
          ap rank (unrank_in n k r h)
          ∙ rw (unrank_length n k s, unrank_members n k s b, rank_unrank n k s b) (omega arith)
    ]

-- the rank of a subset gives the subset back
pub unrank_rank : (bs : List Bool) → unrank (length bs) (members bs) (rank bs) ≡ bs
unrank_rank [] = refl
unrank_rank (true ∷ bs) =
    unrank_in (length bs) (members bs) (rank (true ∷ bs)) (omega arith)
    ∙ ap (λ (r : ℕ). true ∷ unrank (length bs) (members bs) r) (omega arith)
    ∙ ap (λ (cs : List Bool). true ∷ cs) (unrank_rank bs)
unrank_rank (false ∷ bs) =
    unrank_out (length bs) (members bs) (rank bs) (rank_below bs)
    ∙ ap (λ (cs : List Bool). false ∷ cs) (unrank_rank bs)

-- there are no more members than cells
pub members_le : (bs : List Bool) → members bs ≤ length bs
members_le [] = omega arith
members_le (true ∷ bs) = omega (arith, members_le bs)
members_le (false ∷ bs) = omega (arith, members_le bs)
