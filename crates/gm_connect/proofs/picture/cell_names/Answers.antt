use Rattle.std.proofs.Common.{◌≡◌, ℕ, List, [], ◌∷◌, refl, sym, ap, ◌∙◌}
use Rattle.gm_connect.specs.declared.size.Size.TheVariants.{FourByFour, FiveByFour, FourByFive, FourBySix, FiveByFive, SixByFour}
use Rattle.gm_connect.specs.ConnectPicture.{cell_names}
use Rattle.gm_connect.specs.Sizes.{columns, rows}
use Rattle.gm_connect.proofs.picture.cell_names.Goals as goal

-- the names of the top row, and of the row with this letter, before others
abbrev top : List (List ℕ) → List (List ℕ)
top ns = (49 ∷ []) ∷ (50 ∷ []) ∷ (51 ∷ []) ∷ (52 ∷ []) ∷ ns

abbrev four : ℕ → List (List ℕ) → List (List ℕ)
four a ns = (a ∷ 49 ∷ []) ∷ (a ∷ 50 ∷ []) ∷ (a ∷ 51 ∷ []) ∷ (a ∷ 52 ∷ []) ∷ ns

abbrev five : ℕ → List (List ℕ) → List (List ℕ)
five a ns = four a ((a ∷ 53 ∷ []) ∷ ns)

abbrev six : ℕ → List (List ℕ) → List (List ℕ)
six a ns = five a ((a ∷ 54 ∷ []) ∷ ns)

of_4_by_4 : top (four 98 (four 99 (four 100 []))) ≡ cell_names FourByFour
unfolding cell_names columns rows
of_4_by_4 = refl

of_5_by_4 : top ((53 ∷ []) ∷ five 98 (five 99 (five 100 []))) ≡ cell_names FiveByFour
unfolding cell_names columns rows
of_5_by_4 = refl

of_4_by_5 : top (four 98 (four 99 (four 100 (four 101 [])))) ≡ cell_names FourByFive
unfolding cell_names columns rows
of_4_by_5 = refl

of_4_by_6 : top (four 98 (four 99 (four 100 (four 101 (four 102 []))))) ≡ cell_names FourBySix
unfolding cell_names columns rows
of_4_by_6 = refl

of_5_by_5 : top ((53 ∷ []) ∷ five 98 (five 99 (five 100 (five 101 [])))) ≡ cell_names FiveByFive
unfolding cell_names columns rows
of_5_by_5 = refl

of_6_by_4 : top ((53 ∷ []) ∷ (54 ∷ []) ∷ six 98 (six 99 (six 100 []))) ≡ cell_names SixByFour
unfolding cell_names columns rows
of_6_by_4 = refl

pub returns-in-FourByFour : goal.returns-in-FourByFour
returns-in-FourByFour c = of_4_by_4 ∙ ap cell_names (sym c.in-FourByFour.is)

pub returns-in-FiveByFour : goal.returns-in-FiveByFour
returns-in-FiveByFour c = of_5_by_4 ∙ ap cell_names (sym c.in-FiveByFour.is)

pub returns-in-FourByFive : goal.returns-in-FourByFive
returns-in-FourByFive c = of_4_by_5 ∙ ap cell_names (sym c.in-FourByFive.is)

pub returns-in-FourBySix : goal.returns-in-FourBySix
returns-in-FourBySix c = of_4_by_6 ∙ ap cell_names (sym c.in-FourBySix.is)

pub returns-in-FiveByFive : goal.returns-in-FiveByFive
returns-in-FiveByFive c = of_5_by_5 ∙ ap cell_names (sym c.in-FiveByFive.is)

pub returns-in-SixByFour : goal.returns-in-SixByFour
returns-in-SixByFour c = of_6_by_4 ∙ ap cell_names (sym c.in-SixByFour.is)
