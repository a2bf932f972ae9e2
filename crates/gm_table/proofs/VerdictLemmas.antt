-- What the checker says of records, each reason by itself.
use Rattle.gm_table.proofs.Lower.{◌≡◌, ◌↔◌, ℕ, inl, inr, List, length, Option, ap, subst, Solved, REMOTENESS, Rules, TableData, IsFirstWrong}
use Rattle.std.proofs.lemmas.Bool.{cases_order}
use Rattle.gm_game.specs.Records.{IsTrueTable}
use Rattle.gm_table.specs.declared.checker.CheckError.{CheckError}
use Rattle.gm_table.specs.declared.checker.CheckError.TheVariants.{OutOfMemory, WrongSize, WrongRecord}
use Rattle.gm_table.specs.Checks.{FitTables, AreWrong}

module _ (r : Rules) (entries : List TableData) (tier : ℕ) (records : List (Option Solved))
    (same : IsTrueTable r REMOTENESS tier records ↔ FitTables r entries tier records) where
  -- true records have no first wrong one
  pub true_no_first : IsTrueTable r REMOTENESS tier records → (i : ℕ) → IsFirstWrong r entries tier records i → ⊥
  true_no_first t i first = first.wrong ((same.0 t).each i)

  -- wrong records are not true
  pub wrong_untrue : (why : CheckError) → AreWrong r entries tier records why → IsTrueTable r REMOTENESS tier records → ⊥
  wrong_untrue OutOfMemory wrong t = wrong
  wrong_untrue WrongSize wrong t = wrong t.whole
  wrong_untrue (WrongRecord i) wrong t = true_no_first t i wrong.1

  -- there is one first wrong record
  first_once : (i j : ℕ) → IsFirstWrong r entries tier records i → IsFirstWrong r entries tier records j → i ≡ j
  first_once i j a b = elim (cases_order i j) [
    | inl e ↦ e
    | inr apart ↦ elim apart [ inl less ↦ absurd (a.wrong (b.before i less)) | inr more ↦ absurd (b.wrong (a.before j more)) ]
  ]

  -- a wrong record is named exactly if it is the first one
  pub names_first : (why : CheckError) → AreWrong r entries tier records why → (i : ℕ) → (why ≡ WrongRecord i) ↔
      ((length records ≡ r.tier_size tier) × IsFirstWrong r entries tier records i)
  names_first OutOfMemory wrong i = absurd wrong
  names_first WrongSize wrong i = (λ e. absurd (cc), λ h. absurd (wrong h.0))
  names_first (WrongRecord j) wrong i = (
    λ e. (let here : j ≡ i = cc in (wrong.0, subst (IsFirstWrong r entries tier records) here wrong.1)),
    λ h. ap (λ (k : ℕ). WrongRecord k)
        (first_once j i wrong.1 h.1),
  )
