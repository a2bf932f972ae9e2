use Rattle.std.proofs.Common.{◌≡◌, ℕ, List, map, refl, ap, ◌∙◌}
use Rattle.gm_board.specs.BoardMasks.{pattern_mask}
use Rattle.gm_connect.specs.declared.size.Size.{Size}
use Rattle.gm_connect.specs.declared.size.Size.TheVariants.{FourByFour, FiveByFour, FourByFive, FourBySix, FiveByFive, SixByFour}
use Rattle.gm_connect.specs.declared.size.TheConstants.{LINES_4X4, LINES_5X4, LINES_4X5, LINES_4X6, LINES_5X5, LINES_6X4}
use Rattle.gm_connect.specs.Lines.{lines}
use Rattle.gm_connect.specs.Sizes.{columns, rows}
use Rattle.gm_connect.proofs.size.Size.lines.Goals as goal

abbrev masks : Size → List ℕ
masks s = map pattern_mask (lines s)

of_4_by_4 : masks FourByFour ≡ LINES_4X4
unfolding lines columns rows
of_4_by_4 = refl

of_5_by_4 : masks FiveByFour ≡ LINES_5X4
unfolding lines columns rows
of_5_by_4 = refl

of_4_by_5 : masks FourByFive ≡ LINES_4X5
unfolding lines columns rows
of_4_by_5 = refl

of_4_by_6 : masks FourBySix ≡ LINES_4X6
unfolding lines columns rows
of_4_by_6 = refl

of_5_by_5 : masks FiveByFive ≡ LINES_5X5
unfolding lines columns rows
of_5_by_5 = refl

of_6_by_4 : masks SixByFour ≡ LINES_6X4
unfolding lines columns rows
of_6_by_4 = refl

pub returns-in-FourByFour : goal.returns-in-FourByFour
returns-in-FourByFour c = ap masks c.in-FourByFour.is ∙ of_4_by_4

pub returns-in-FiveByFour : goal.returns-in-FiveByFour
returns-in-FiveByFour c = ap masks c.in-FiveByFour.is ∙ of_5_by_4

pub returns-in-FourByFive : goal.returns-in-FourByFive
returns-in-FourByFive c = ap masks c.in-FourByFive.is ∙ of_4_by_5

pub returns-in-FourBySix : goal.returns-in-FourBySix
returns-in-FourBySix c = ap masks c.in-FourBySix.is ∙ of_4_by_6

pub returns-in-FiveByFive : goal.returns-in-FiveByFive
returns-in-FiveByFive c = ap masks c.in-FiveByFive.is ∙ of_5_by_5

pub returns-in-SixByFour : goal.returns-in-SixByFour
returns-in-SixByFour c = ap masks c.in-SixByFour.is ∙ of_6_by_4
